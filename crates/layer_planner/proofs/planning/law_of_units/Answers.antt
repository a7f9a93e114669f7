use Rattle.layer_planner.proofs.FirstPlaces.{firsts_rise}
use Rattle.layer_planner.proofs.PartUnits.{parts_are_units}
use Rattle.layer_planner.proofs.UnitLaws.{units_are_units}
use Rattle.layer_planner.proofs.planning.law_of_units.Goals as goal

pub returns-clause-units : goal.returns-clause-units
returns-clause-units c = units_are_units

pub returns-clause-order : goal.returns-clause-order
returns-clause-order c = firsts_rise

pub returns-clause-parts : goal.returns-clause-parts
returns-clause-parts c = parts_are_units
