use Rattle.std.proofs.Common.{◌≡◌}
use Rattle.skeen_core.specs.Proposals.{are_single}
use Rattle.skeen_core.proofs.proposals.are_single.Given as goal

-- the requests passed so far have no such proposal
abbrev pub invariant-loop-other : goal.invariant-loop-other
invariant-loop-other l = are_single l.id l.from l.clock l.other-iterator ≡ are_single l.id l.from l.clock l.fn.lists.entries
