-- The units of all parts together: the units of the layer in another order.
use Rattle.std.proofs.Common.{◌≡◌, ℕ, zero, suc, ◌+◌, ◌*◌, ◌<◌, ◌==◌, cond, nat_lt, List, [], ◌∷◌, ◌++◌, map, length}
use Rattle.std.proofs.Common.{slice_index_or, refl, sym, ap, ◌∙◌, subst, arith, inl, inr, eq-eqb, ne_eqb, lt-ltb, le-ltb}
use Rattle.std.specs.List.{concat}
use Rattle.std.proofs.Math.Nat.{add-mul}
use Rattle.std.proofs.lemmas.Bool.{cases_lt}
use Rattle.std.proofs.lemmas.List.{map-append}
use Rattle.groups.proofs.Lists.{In-get}
use Rattle.groups.specs.Order.{In}
use Rattle.layer_planner.specs.declared.job.Job.{Job}
use Rattle.layer_planner.specs.Layers.{StandTogether}
use Rattle.layer_planner.specs.Parts.{dealt, picked_units, parts_of, units_in}
use Rattle.layer_planner.specs.Units.{groups_each, units, AreUnitsOf}
use Rattle.layer_planner.proofs.PartLaws.{times, times-append, each_place_once}
use Rattle.layer_planner.proofs.UnitLaws.{total, times-concat, in_map, units_are_units}

-- ---- sums over the first numbers

sums : (ℕ → ℕ) → ℕ → ℕ
sums h zero = 0
sums h (suc m) = h 0 + sums (λ k. h (suc k)) m

-- each as often as t says
weighed : (ℕ → ℕ) → (ℕ → ℕ) → ℕ → ℕ
weighed t h zero = 0
weighed t h (suc m) = t 0 * h 0 + weighed (λ k. t (suc k)) (λ k. h (suc k)) m

weighed_none : (t h : ℕ → ℕ) (m : ℕ) → ((k : ℕ) → t k ≡ 0) → weighed t h m ≡ 0
unfolding weighed
weighed_none t h zero none = refl
weighed_none t h (suc m) none =
    let rest = weighed_none (λ k. t (suc k)) (λ k. h (suc k)) m (λ k. none (suc k)) in
    let here : t 0 * h 0 ≡ 0 * h 0 = ap (λ n. n * h 0) (none 0) in
    omega (arith, rest, here)

weighed_one : (t h : ℕ → ℕ) (m at : ℕ) → at < m → t at ≡ 1 → ((k : ℕ) → (at ≡ k → ⊥) → t k ≡ 0) → weighed t h m ≡ h at
unfolding weighed
weighed_one t h zero at low one none = absurd (omega (arith, low))
weighed_one t h (suc m) zero low one none =
    let rest = weighed_none (λ k. t (suc k)) (λ k. h (suc k)) m (λ k. none (suc k) (λ e. omega (arith, e))) in
    let here : t 0 * h 0 ≡ 1 * h 0 = ap (λ n. n * h 0) one in
    omega (arith, rest, here)
weighed_one t h (suc m) (suc at) low one none =
    let rest = weighed_one (λ k. t (suc k)) (λ k. h (suc k)) m at (omega (arith, low)) one
    (λ k apart. none (suc k) (λ e. apart (omega (arith, e)))) in
    let here : t 0 * h 0 ≡ 0 * h 0 = ap (λ n. n * h 0) (none 0 (λ e. omega (arith, e))) in
    omega (arith, rest, here)

weighed-add : (t s h : ℕ → ℕ) (m : ℕ) → weighed (λ k. t k + s k) h m ≡ weighed t h m + weighed s h m
unfolding weighed
weighed-add t s h zero = refl
weighed-add t s h (suc m) =
    let rest = weighed-add (λ k. t (suc k)) (λ k. s (suc k)) (λ k. h (suc k)) m in
    let here = add-mul (t 0) (s 0) (h 0) in
    omega (arith, rest, here)

weighed_same : (t s h : ℕ → ℕ) (m : ℕ) → ((k : ℕ) → t k ≡ s k) → weighed t h m ≡ weighed s h m
unfolding weighed
weighed_same t s h zero same = refl
weighed_same t s h (suc m) same =
    ap (λ n. n * h 0 + weighed (λ k. t (suc k)) (λ k. h (suc k)) m) (same 0)
    ∙ ap (λ n. s 0 * h 0 + n) (weighed_same (λ k. t (suc k)) (λ k. s (suc k)) (λ k. h (suc k)) m (λ k. same (suc k)))

weighed_once : (t h : ℕ → ℕ) (m : ℕ) → ((k : ℕ) → k < m → t k ≡ 1) → weighed t h m ≡ sums h m
unfolding weighed sums
weighed_once t h zero once = refl
weighed_once t h (suc m) once =
    let rest = weighed_once (λ k. t (suc k)) (λ k. h (suc k)) m (λ k low. once (suc k) (omega (arith, low))) in
    let here : t 0 * h 0 ≡ 1 * h 0 = ap (λ n. n * h 0) (once 0 (omega arith)) in
    omega (arith, rest, here)

-- ---- a list that has each number below m once

pub one_more : (k x : ℕ) (xs : List ℕ) → times k (x ∷ xs) ≡ cond (x == k) 1 0 + times k xs
one_more k x xs = times-append k (x ∷ []) xs ∙ (let z : 0 + cond {A = ℕ} (x == k) 1 0 ≡ cond {A = ℕ} (x == k) 1 0 = omega arith in
    ap (λ n. n + times k xs) z)

total-weighed : (h : ℕ → ℕ) (xs : List ℕ) (m : ℕ) → ((k : ℕ) → In k xs → k < m) → total h xs ≡ weighed (λ k. times k xs) h m
unfolding total
total-weighed h [] m within = sym (weighed_none (λ k. times k []) h m (λ k. refl))
total-weighed h (x ∷ xs) m within =
    let rest = total-weighed h xs m (λ k there. within k (inr there)) in
    let one = weighed_one (λ k. cond {A = ℕ} (x == k) 1 0) h m x (within x (inl refl)) (ap (λ b. cond {A = ℕ} b 1 0) (eq-eqb x x refl))
    (λ k apart. ap (λ b. cond {A = ℕ} b 1 0) (ne_eqb x k apart)) in
    let both = weighed-add (λ k. cond {A = ℕ} (x == k) 1 0) (λ k. times k xs) h m in
    let all = weighed_same (λ k. times k (x ∷ xs)) (λ k. cond {A = ℕ} (x == k) 1 0 + times k xs) h m (λ k. one_more k x xs) in
    omega (arith, rest, one, both, all)

in_times : (k : ℕ) (xs : List ℕ) → In k xs → 0 < times k xs
in_times k [] h = absurd h
in_times k (x ∷ xs) (inl e) =
    let more = one_more k x xs in
    let here : cond {A = ℕ} (x == k) 1 0 ≡ 1 = ap (λ b. cond {A = ℕ} b 1 0) (eq-eqb x k (sym e)) in
    omega (arith, more, here)
in_times k (x ∷ xs) (inr there) =
    let more = one_more k x xs in
    let rest = in_times k xs there in
    omega (arith, more, rest)

module _ (xs : List ℕ) (m : ℕ) (once : (k : ℕ) → times k xs ≡ cond (nat_lt k m) 1 0) where
  within : (k : ℕ) → In k xs → k < m
  within k there = elim (cases_lt k m) [
    | inl low ↦ low
    | inr past ↦
        let some = in_times k xs there in
        let none = once k ∙ ap (λ b. cond {A = ℕ} b 1 0) (le-ltb k m past) in
        absurd (omega (arith, some, none))
  ]

  total_is : (h : ℕ → ℕ) → total h xs ≡ sums h m
  total_is h = total-weighed h xs m within
      ∙ weighed_once (λ k. times k xs) h m (λ k low. once k ∙ ap (λ b. cond {A = ℕ} b 1 0) (lt-ltb k m low))

-- ---- units in another order

times-sums : (i : ℕ) (us : List (List ℕ)) → times i (concat us) ≡ sums (λ k. times i (slice_index_or us k [])) (length us)
unfolding sums
times-sums i [] = refl
times-sums i (u ∷ us) = times-append i u (concat us) ∙ ap (λ n. times i u + n) (times-sums i us)

In-at : (us : List (List ℕ)) (k : ℕ) → k < length us → In (slice_index_or us k []) us
In-at us k low = In-get us k [] low

pub reordered : (sets us : List (List ℕ)) (ks : List ℕ) → ((k : ℕ) → times k ks ≡ cond (nat_lt k (length us)) 1 0) → AreUnitsOf sets us
    → AreUnitsOf sets (picked_units us ks)
reordered sets us ks once are = record {
  each = λ unit there.
      let r = in_map (λ k. slice_index_or us k []) ks unit there in
      are.each unit (subst (λ u. In u us) (sym r.2) (In-at us r.0 (within ks (length us) once r.0 r.1)));
  once = λ i.
      times-concat i (λ k. slice_index_or us k []) ks
      ∙ total_is ks (length us) once (λ k. times i (slice_index_or us k []))
      ∙ sym (times-sums i us) ∙ are.once i;
}

in_parts : (us ds : List (List ℕ)) → units_in (map (picked_units us) ds) ≡ picked_units us (concat ds)
in_parts us [] = refl
in_parts us (d ∷ ds) = ap (λ l. picked_units us d ++ l) (in_parts us ds) ∙ sym (map-append (λ k. slice_index_or us k []) d (concat ds))

pub parts_are_units : (parts : ℕ) (jobs : List Job) → 0 < parts → StandTogether jobs → AreUnitsOf (groups_each jobs)
    (units_in (parts_of parts jobs))
parts_are_units parts jobs low stand = subst (AreUnitsOf (groups_each jobs))
    (sym (in_parts (units jobs) (dealt parts (length (units jobs)))))
    (reordered (groups_each jobs) (units jobs) (concat (dealt parts (length (units jobs))))
    (λ k. each_place_once parts (length (units jobs)) k low) (units_are_units jobs stand))
