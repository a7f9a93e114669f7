use Rattle.std.proofs.Common.{◌-◌, length}
use Rattle.layer_planner.proofs.PartLaws.{HasDealt}
use Rattle.layer_planner.proofs.planning.deal_part.Given as goal

-- the part up to its latest unit
abbrev pub invariant-loop-number : goal.invariant-loop-number
invariant-loop-number l = HasDealt l.units l.parts l.first l.number l.dealt

-- the units that are left
abbrev pub decreases-loop-number : goal.decreases-loop-number
decreases-loop-number l = length l.units - l.number
