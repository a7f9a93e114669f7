use Rattle.layer_planner.proofs.FirstPlaces.{AreFirsts}
use Rattle.layer_planner.proofs.firsts.first_places.Given as goal

abbrev pub invariant-loop-place : goal.invariant-loop-place
invariant-loop-place l = AreFirsts l.jobs l.place l.begun l.places.items
