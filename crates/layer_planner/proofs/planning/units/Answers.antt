use Rattle.std.proofs.Common.{sym, ap, ◌∙◌, subst}
use Rattle.groups.specs.Order.{In}
use Rattle.layer_planner.specs.Units.{units}
use Rattle.layer_planner.proofs.FirstPlaces.{firsts_inside, firsts_are_first, no_units, no_jobs}
use Rattle.layer_planner.proofs.planning.units.Goals as goal

pub returns-then-is_empty-clause-units : goal.returns-then-is_empty-clause-units
returns-then-is_empty-clause-units c =
    c.empty.ensures ∙ sym (ap units (no_jobs c.args.layer.now (sym c.is_empty.ensures ∙ c.if-is_empty.true)) ∙ no_units)

pub units_from-requires-clause-inside : goal.units_from-requires-clause-inside
units_from-requires-clause-inside c = λ k there.
    firsts_inside c.jobs-jobs.result.now k (subst (In k) (c.as_slice.ensures.value ∙ c.in_ok-firsts.ensures) there)

pub units_from-requires-clause-firsts : goal.units_from-requires-clause-firsts
units_from-requires-clause-firsts c = λ k there.
    firsts_are_first c.jobs-jobs.result.now k (subst (In k) (c.as_slice.ensures.value ∙ c.in_ok-firsts.ensures) there)
