use Rattle.layer_planner.specs.Units.{groups_each}
use Rattle.layer_planner.proofs.Chains.{AreChains}
use Rattle.layer_planner.proofs.nexts.next_places.Given as goal

abbrev pub invariant-loop-left : goal.invariant-loop-left
invariant-loop-left l = AreChains (groups_each l.jobs) l.left l.nexts.items l.heads

abbrev pub decreases-loop-left : goal.decreases-loop-left
decreases-loop-left l = l.left
