use Rattle.layer_planner.proofs.PartLaws.{HasPlanned}
use Rattle.layer_planner.proofs.planning.deal.Given as goal

abbrev pub invariant-loop-first : goal.invariant-loop-first
invariant-loop-first l = HasPlanned l.units l.count l.first l.parts.items
