use Rattle.std.proofs.Common.{ap, ◌∙◌}
use Rattle.values.proofs.PairsSeen.{remove-seen}
use Rattle.values.specs.HashValue.{pairs_seen}
use Rattle.values.proofs.pair_table.remove.Goals as goal

pub returns-clause-left : goal.returns-clause-left
returns-clause-left c = ap pairs_seen c.shift_remove.ensures.entries ∙ remove-seen c.args.field.now c.args.pairs.now.entries
