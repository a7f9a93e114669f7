use Rattle.replay.proofs.Spelling.{spells-front}
use Rattle.replay.proofs.beginning.beginning_spells.Goals as goal

pub returns : goal.returns
returns c = spells-front
