-- What the plan of a layer is: its units, in as many parts as there are workers at most.
use Rattle.std.proofs.Common.{◌≡◌, ℕ, zero, suc, ◌<◌, min, List, [], ◌∷◌, ◌++◌, length, get_or}
use Rattle.std.proofs.Common.{inl, inr, refl, sym, ◌∙◌, subst, arith}
use Rattle.std.proofs.lemmas.List.{append-nil, length-map}
use Rattle.std.proofs.lemmas.List.FromFn.{length-map-range_with_len}
use Rattle.std.specs.List.{AllByRecursion, concat}
use Rattle.groups.specs.Order.{In}
use Rattle.layer_planner.proofs.PartUnits.{parts_are_units}
use Rattle.layer_planner.proofs.UnitLaws.{units_are_units}
use Rattle.layer_planner.specs.Layers.{StandTogether}
use Rattle.layer_planner.specs.Parts.{part, dealt, picked_units, parts_of, planned, units_in}
use Rattle.layer_planner.specs.Units.{groups_each, units, AreUnitsOf}
use Rattle.layer_planner.specs.declared.job.Job.{Job}
use Rattle.shard_exec.specs.DealtRooms.{AreInLayer}
use Rattle.shard_exec.proofs.Slots.{all_in, within}

sets_length : (jobs : List Job) → length (groups_each jobs) ≡ length jobs
sets_length jobs = length-map jobs (λ j. j.groups)

parts_length : (parts : ℕ) (jobs : List Job) → length (parts_of parts jobs) ≡ parts
parts_length parts jobs = length-map (dealt parts (length (units jobs))) (picked_units (units jobs))
    ∙ length-map-range_with_len (part parts (length (units jobs))) 0 parts

-- a layer with requests has units
some_units : (jobs : List Job) → StandTogether jobs → 0 < length jobs → 0 < length (units jobs)
some_units jobs together some = none (units jobs) (all_in (length (groups_each jobs)) (units jobs) (units_are_units jobs together).once 0
    (subst (λ n. 0 < n) (sym (sets_length jobs)) some))
  where
    none : (us : List (List ℕ)) → In 0 (concat us) → 0 < length us
    none [] there = absurd there
    none (u ∷ us) there = omega arith

abbrev count : ℕ → List Job → ℕ
count workers jobs = min workers (length (units jobs))

pub planned_length : (workers : ℕ) (jobs : List Job) → length (planned workers jobs) ≡ count workers jobs
planned_length workers jobs = parts_length (count workers jobs) jobs

pub planned_some : (workers : ℕ) (jobs : List Job) → 0 < workers → StandTogether jobs → 0 < length jobs → 0 < length (planned workers jobs)
planned_some workers jobs some together many =
    let e = planned_length workers jobs in let u = some_units jobs together many in omega (arith, e, u, some)

pub planned_units : (workers : ℕ) (jobs : List Job) → 0 < workers → StandTogether jobs → 0 < length jobs
    → AreUnitsOf (groups_each jobs) (units_in (planned workers jobs))
planned_units workers jobs some together many =
    let u = some_units jobs together many in parts_are_units (count workers jobs) jobs (omega (arith, u, some)) together

pub one_part : (p : List (List ℕ)) → units_in (p ∷ []) ≡ p
one_part p = append-nil p

-- ---- places of the layer

pub all_where : (P : ℕ → Type 0) (xs : List ℕ) → ((i : ℕ) → In i xs → P i) → AllByRecursion P xs
all_where P [] each = tt
all_where P (x ∷ xs) each = (each x (inl refl), all_where P xs (λ i there. each i (inr there)))

pub places_below : (jobs : List Job) (us : List (List ℕ)) → AreUnitsOf (groups_each jobs) us → (n : ℕ) → n ≡ length jobs
    → AllByRecursion (λ i. i < n) (concat us)
places_below jobs us of n long = all_where (λ i. i < n) (concat us) (λ i there.
    subst (λ k. i < k) (sets_length jobs ∙ sym long) (within (length (groups_each jobs)) us of.once i there))

behind : (i : ℕ) (v : List ℕ) (us : List (List ℕ)) → In i (concat us) → In i (v ++ concat us)
behind i [] us h = h
behind i (x ∷ v) us h = inr (behind i v us h)

before : (i : ℕ) (v : List ℕ) (us : List (List ℕ)) → In i v → In i (v ++ concat us)
before i [] us h = absurd h
before i (x ∷ v) us (inl e) = inl e
before i (x ∷ v) us (inr h) = inr (before i v us h)

in_unit : (i : ℕ) (u : List ℕ) (us : List (List ℕ)) → In i u → In u us → In i (concat us)
in_unit i u [] h there = absurd there
in_unit i u (v ∷ us) h (inl e) = before i v us (subst (In i) e h)
in_unit i u (v ∷ us) h (inr there) = behind i v us (in_unit i u us h there)

units_below : (jobs : List Job) (all : List (List ℕ)) → AreUnitsOf (groups_each jobs) all → (us : List (List ℕ))
    → ((u : List ℕ) → In u us → In u all) → AllByRecursion (AreInLayer (length jobs)) us
units_below jobs all of [] sub = tt
units_below jobs all of (u ∷ us) sub = (
  (
    (of.each u (sub u (inl refl))).some,
    all_where (λ i. i < length jobs) u (λ i there.
        subst (λ k. i < k) (sets_length jobs)
        (within (length (groups_each jobs)) all of.once i (in_unit i u all there (sub u (inl refl))))),
  ),
  units_below jobs all of us (λ v i. sub v (inr i)),
)

pub plan_below : (jobs : List Job) (all : List (List ℕ)) → AreUnitsOf (groups_each jobs) all → (plan : List (List (List ℕ)))
    → ((u : List ℕ) → In u (units_in plan) → In u all) → AllByRecursion (AllByRecursion (AreInLayer (length jobs))) plan
plan_below jobs all of [] sub = tt
plan_below jobs all of (p ∷ plan) sub = (
  units_below jobs all of p (λ u i. sub u (left u p i)),
  plan_below jobs all of plan (λ u i. sub u (right u p i)),
)
  where
    left : (u : List ℕ) (us : List (List ℕ)) → In u us → In u (us ++ units_in plan)
    left u [] h = absurd h
    left u (v ∷ us) (inl e) = inl e
    left u (v ∷ us) (inr h) = inr (left u us h)

    right : (u : List ℕ) (us : List (List ℕ)) → In u (units_in plan) → In u (us ++ units_in plan)
    right u [] h = h
    right u (v ∷ us) h = inr (right u us h)

-- what holds of all holds of one
pub by_at : {A : Type 0} (P : A → Type 0) (xs : List A) (k : ℕ) (d : A) → AllByRecursion P xs → k < length xs → P (get_or xs k d)
by_at P [] k d all below = absurd (omega (arith, below))
by_at P (x ∷ xs) zero d all below = all.0
by_at P (x ∷ xs) (suc k) d all below = by_at P xs k d all.1 (omega (arith, below))
