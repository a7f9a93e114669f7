use Rattle.std.proofs.Common.{◌-◌, length}
use Rattle.layer_planner.specs.Units.{groups_each}
use Rattle.layer_planner.proofs.Chains.{Along}
use Rattle.layer_planner.proofs.planning.push_unit.Given as goal

abbrev pub invariant-loop-place : goal.invariant-loop-place
invariant-loop-place l = Along (groups_each l.jobs) l.first l.place l.fn.places.items l.places.items

abbrev pub decreases-loop-place : goal.decreases-loop-place
decreases-loop-place l = length l.jobs - l.place
