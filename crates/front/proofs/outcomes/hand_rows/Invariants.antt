use Rattle.std.proofs.Common.{ℕ, List}
use Rattle.std.specs.List.{AllZip}
use Rattle.front.proofs.Half.{HalfSettled}
use Rattle.front.specs.Outcomes.{IsSettling}
use Rattle.front.specs.Settling.{IsToldBy}
use Rattle.placement.specs.Layout.{Layout}
use Rattle.world.specs.World.{World, Standing, Ended}
use Rattle.front.proofs.outcomes.hand_rows.Given as goal

-- the outcomes of those in front have gone
abbrev pub invariant-loop-row : goal.invariant-loop-row
invariant-loop-row l = (t : Layout) (w : World) (done es : List Ended) (standing : ℕ → Standing) →
    AllZip IsToldBy es l.fn.rows.items → IsSettling t w done es standing l.fn.router →
    HalfSettled t w done es standing l.row-iterator.rest.items l.router
