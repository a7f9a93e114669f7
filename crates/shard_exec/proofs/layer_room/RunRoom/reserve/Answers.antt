use Rattle.std.proofs.Common.{rules, arith, ◌≡◌, ◌<◌, ◌≤◌, ◌++◌, ◌∷◌, [], length, sym, ap, ◌∙◌, subst, length-append}
use Rattle.std.proofs.lemmas.List.{nil_from_length}
use Rattle.std.specs.Int.NonZero.{non_zero_usize_get}
use Rattle.std.specs.List.{AllZip, AllByRecursion}
use Rattle.layer_planner.specs.Parts.{units_in}
use Rattle.layer_planner.specs.Units.{AreUnitsOf, groups_each}
use Rattle.shard_exec.specs.DealtRooms.{AreInLayer, FitsDealt}
use Rattle.shard_exec.specs.Rooms.{FitsAt}
use Rattle.shard_exec.proofs.Plans.{planned_length, planned_some, planned_units, one_part, places_below, plan_below}
use Rattle.shard_exec.proofs.layer_room.RunRoom.reserve.Goals as goal

pub reserve-requires : goal.reserve-requires
reserve-requires g c =
    let some : 0 < non_zero_usize_get c.number_for-number.result = search rules in let layer = c.args.layer.now in
    let of = subst (λ p. AreUnitsOf (groups_each layer) (units_in p)) (sym c.in_ok-plan.ensures.dealt)
    (planned_units (non_zero_usize_get c.number_for-number.result) layer some c.jobs-jobs.ensures.units c.requires.some) in
    subst (λ js. AllByRecursion (AllByRecursion (AreInLayer (length js))) c.as_slice.result.now) (sym c.jobs-jobs.ensures.jobs)
    (subst (AllByRecursion (AllByRecursion (AreInLayer (length layer)))) (sym c.as_slice.ensures.value)
    (plan_below layer (units_in c.in_ok-plan.plan.items) of c.in_ok-plan.plan.items (λ u i. i)))

pub returns-then-len-gt1-clause-fits : goal.returns-then-len-gt1-clause-fits
returns-then-len-gt1-clause-fits g c =
    let some : 0 < non_zero_usize_get c.number_for-number.result = search rules in let layer = c.args.layer.now in (
      subst (λ p. AreUnitsOf (groups_each layer) (units_in p)) (sym c.in_ok-plan.ensures.dealt)
          (planned_units (non_zero_usize_get c.number_for-number.result) layer some c.jobs-jobs.ensures.units c.requires.some),
      subst (λ p. FitsDealt (groups_each layer) p c.in_ok-dealt.dealt) c.as_slice.ensures.value
          (subst (λ js. FitsDealt (groups_each js) c.as_slice.result.now c.in_ok-dealt.dealt) c.jobs-jobs.ensures.jobs
          c.in_ok-dealt.ensures.fits),
    )

pub returns-then-len-gt1-clause-few : goal.returns-then-len-gt1-clause-few
returns-then-len-gt1-clause-few g c =
    let e = ap (λ (l : _). length l) c.in_ok-plan.ensures.dealt in
    let n = planned_length (non_zero_usize_get c.number_for-number.result) c.args.layer.now in let w = c.number_for-number.ensures.few in omega (arith, e, n, w)

pub unreachable-requires : goal.unreachable-requires
unreachable-requires g c =
    let some : 0 < non_zero_usize_get c.number_for-number.result = search rules in
    let s = planned_some (non_zero_usize_get c.number_for-number.result) c.args.layer.now some c.jobs-jobs.ensures.units c.requires.some in
    let e = ap (λ (l : _). length l) c.in_ok-plan.ensures.dealt in
    absurd (omega (arith, s, e, c.in_default.ensures.len, c.in_default.ensures.cases))

pub reserve_spans-requires : goal.reserve_spans-requires
reserve_spans-requires g c =
    let some : 0 < non_zero_usize_get c.number_for-number.result = search rules in let layer = c.args.layer.now in
    let whole : c.in_ok-plan.plan.items ≡ c.pop.new.self.items ++ c.in-Some.part ∷ [] = search rules in
    let none : c.pop.new.self.items ≡ [] =
    nil_from_length _ (let a = ap (λ (l : _). length l) whole in let b = length-append c.pop.new.self.items (c.in-Some.part ∷ []) in
    let few : length c.in_ok-plan.plan.items ≤ 1 = search rules in omega (arith, a, b, few)) in
    let of = subst (λ p. AreUnitsOf (groups_each layer) (units_in p)) (sym c.in_ok-plan.ensures.dealt)
    (planned_units (non_zero_usize_get c.number_for-number.result) layer some c.jobs-jobs.ensures.units c.requires.some) in
    let of_part = subst (AreUnitsOf (groups_each layer))
    (ap units_in (whole ∙ ap (λ l. l ++ c.in-Some.part ∷ []) none) ∙ one_part c.in-Some.part) of in
    subst (AllByRecursion (λ i. i < length c.jobs-jobs.result.now)) (sym c.places.ensures)
    (places_below layer c.in-Some.part of_part (length c.jobs-jobs.result.now) (ap (λ (l : _). length l) c.jobs-jobs.ensures.jobs))

pub returns-clause-fits : goal.returns-clause-fits
returns-clause-fits g c =
    let some : 0 < non_zero_usize_get c.number_for-number.result = search rules in let layer = c.args.layer.now in
    let whole : c.in_ok-plan.plan.items ≡ c.pop.new.self.items ++ c.in-Some.part ∷ [] = search rules in
    let none : c.pop.new.self.items ≡ [] =
    nil_from_length _ (let a = ap (λ (l : _). length l) whole in let b = length-append c.pop.new.self.items (c.in-Some.part ∷ []) in
    let few : length c.in_ok-plan.plan.items ≤ 1 = search rules in omega (arith, a, b, few)) in
    let of = subst (λ p. AreUnitsOf (groups_each layer) (units_in p)) (sym c.in_ok-plan.ensures.dealt)
    (planned_units (non_zero_usize_get c.number_for-number.result) layer some c.jobs-jobs.ensures.units c.requires.some) in (
      subst (AreUnitsOf (groups_each layer))
          (ap units_in (whole ∙ ap (λ l. l ++ c.in-Some.part ∷ []) none) ∙ one_part c.in-Some.part) of,
      subst (λ is. AllZip (FitsAt layer) is c.in_ok-spans.spans.items) c.places.ensures
          (subst (λ js. AllZip (FitsAt js) c.places.result.now c.in_ok-spans.spans.items) c.jobs-jobs.ensures.jobs c.in_ok-spans.ensures),
    )
