use Rattle.std.proofs.Common.{◌≡◌, take, map, length}
use Rattle.layer_planner.specs.Parts.{cut, AreEnds}
use Rattle.layer_planner.specs.Units.{groups_each, unit_at}
use Rattle.layer_planner.proofs.planning.units_from.Given as goal

abbrev pub invariant-loop-first : goal.invariant-loop-first
invariant-loop-first l = record {
  ends : AreEnds 0 l.ends.items (length l.places.items);
  units : cut 0 l.places.items l.ends.items ≡ map (unit_at (groups_each l.jobs)) (take l.first-index l.firsts);
}
