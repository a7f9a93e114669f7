use Rattle.placement.proofs.Claiming.{ClaimedTo}
use Rattle.placement.proofs.layout.claim.Given as goal

abbrev pub invariant-loop-slot : goal.invariant-loop-slot
invariant-loop-slot l = ClaimedTo l.fn.range.from l.slot l.shard l.initial.owners l.owners
