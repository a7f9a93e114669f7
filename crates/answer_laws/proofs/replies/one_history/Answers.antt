use Rattle.answer_laws.proofs.Standing.{one_history}
use Rattle.answer_laws.proofs.replies.one_history.Goals as goal

pub returns : goal.returns
returns c = one_history
