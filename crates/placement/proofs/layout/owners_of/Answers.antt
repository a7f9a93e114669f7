use Rattle.placement.proofs.Owning.{Owns-start, SomeTwice-next}
use Rattle.placement.proofs.layout.owners_of.Goals as goal

pub loop-range-init : goal.loop-range-init
loop-range-init c = Owns-start

pub returns-then-not-claim : goal.returns-then-not-claim
returns-then-not-claim c =
    let taken = c.if-not-claim.ensures.taken in
    SomeTwice-next c.args.ranges.now c.loop-range.range-index _ c.loop-range.owners taken.0 c.loop-range-test.true c.loop-range.invariant
    taken.1 taken.2 taken.3
