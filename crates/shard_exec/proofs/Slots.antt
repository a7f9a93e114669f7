-- Things taken from their places one after another, each place at most once, and results put in theirs.
use Rattle.std.proofs.Common.{◌≡◌, ℕ, zero, suc, ◌+◌, ◌<◌, ◌≤◌, ◌==◌, inl, inr, nat_lt, List, [], ◌∷◌, ◌++◌, map, length, Bool, true}
use Rattle.std.proofs.Common.{false, cond, Option, Some, None, slice_get, slice_set, get_or, is_some, arith, refl, sym, ap, ◌∙◌}
use Rattle.std.proofs.Common.{subst, eq-eqb, ne_eqb, ltb-true, lt-ltb}
use Rattle.std.proofs.lemmas.Bool.{cases_eq}
use Rattle.std.proofs.lemmas.List.{length-set}
use Rattle.std.proofs.lemmas.List.Sums.{sum_by-append}
use Rattle.std.specs.Option.{IsSome}
use Rattle.std.specs.List.{AllZip, AllByRecursion, concat, count_by}
use Rattle.groups.specs.Order.{In}
use Rattle.layer_planner.specs.Units.{EachPlaceOnce}
use Rattle.shard_workers.specs.declared.placed_job.JobRan.{JobRan}
use Rattle.shard_exec.specs.Dealing.{CanTake, left_at, filled, placed}

pub same_some : {A : Type 0} (a b : A) → Some a ≡ Some b → a ≡ b
same_some a b e = cc

-- ---- each place once

abbrev pub times : ℕ → List ℕ → ℕ
times i xs = count_by (λ j. j == i) xs

pub times-cons : (i x : ℕ) (xs : List ℕ) → times i (x ∷ xs) ≡ cond (x == i) 1 0 + times i xs
times-cons i x xs = sum_by-append (λ j. cond (j == i) 1 0) (x ∷ []) xs
    ∙ (let e : (0 + cond (x == i) 1 0) + times i xs ≡ cond (x == i) 1 0 + times i xs = omega arith in e)

abbrev pub bit : Bool → ℕ
bit b = cond b 1 0

pub one_here : (i x : ℕ) → x ≡ i → bit (x == i) ≡ 1
one_here i x e = ap bit (eq-eqb x i e)

pub in_from_times : (i : ℕ) (xs : List ℕ) → 0 < times i xs → In i xs
in_from_times i [] some = absurd (omega (arith, some))
in_from_times i (x ∷ xs) some = elim (cases_eq x i) [
  | inl e ↦ inl (sym e)
  | inr ne ↦ inr (in_from_times i xs (let other : bit (x == i) ≡ 0 = ap bit (ne_eqb x i ne) in let c = times-cons i x xs in
      omega (arith, other, c, some)))
]

pub times_from_in : (i : ℕ) (xs : List ℕ) → In i xs → 0 < times i xs
times_from_in i [] there = absurd there
times_from_in i (x ∷ xs) (inl e) = let one = one_here i x (sym e) in let c = times-cons i x xs in omega (arith, one, c)
times_from_in i (x ∷ xs) (inr later) = let rest = times_from_in i xs later in let c = times-cons i x xs in omega (arith, rest, c)

abbrev pub AtMostOnce : List ℕ → Type 0
AtMostOnce xs = (i : ℕ) → times i xs ≤ 1

pub once_later : (x : ℕ) (xs : List ℕ) → AtMostOnce (x ∷ xs) → AtMostOnce xs
once_later x xs once i = let c = times-cons i x xs in let o = once i in omega (arith, c, o)

pub not_later : (x : ℕ) (xs : List ℕ) → AtMostOnce (x ∷ xs) → (i : ℕ) → In i xs → x ≡ i → ⊥
not_later x xs once i there e =
    let one = one_here i x e in let c = times-cons i x xs in let o = once i in let some = times_from_in i xs there in
    omega (arith, one, c, o, some)

pub once_in : (n : ℕ) (units : List (List ℕ)) → EachPlaceOnce n units → AtMostOnce (concat units)
once_in n units once i = few (nat_lt i n) _ (once i)
  where
    few : (b : Bool) (k : ℕ) → k ≡ cond b 1 0 → k ≤ 1
    few true k e = omega (arith, e)
    few false k e = omega (arith, e)

pub all_in : (n : ℕ) (units : List (List ℕ)) → EachPlaceOnce n units → (i : ℕ) → i < n → In i (concat units)
all_in n units once i below =
    in_from_times i (concat units) (let e : times i (concat units) ≡ 1 = once i
    ∙ ap (λ b. cond b 1 0) (lt-ltb i n below) in omega (arith, e))

pub within : (n : ℕ) (units : List (List ℕ)) → EachPlaceOnce n units → (i : ℕ) → In i (concat units) → i < n
within n units once i there =
    elim (nat_lt i n) as (λ b. nat_lt i n ≡ b → i < n) [
      | true ↦ λ e. ltb-true i n e
      | false ↦ λ e. (let none : times i (concat units) ≡ 0 = once i ∙ ap (λ b. cond b 1 0) e in
          let some = times_from_in i (concat units) there in absurd (omega (arith, none, some)))
    ] refl

-- ---- taken from their places

pub get-set_other : {Y : Type 0} (xs : List Y) (i j : ℕ) (y : Y) → (i ≡ j → ⊥) → slice_get (slice_set xs i y) j ≡ slice_get xs j
get-set_other [] i j y ne = refl
get-set_other (x ∷ xs) zero zero y ne = absurd (ne refl)
get-set_other (x ∷ xs) zero (suc j) y ne = refl
get-set_other (x ∷ xs) (suc i) zero y ne = refl
get-set_other (x ∷ xs) (suc i) (suc j) y ne = get-set_other xs i j y (λ e. ne (ap suc e))

pub get-set_here : {Y : Type 0} (xs : List Y) (i : ℕ) (y : Y) → i < length xs → slice_get (slice_set xs i y) i ≡ Some y
get-set_here [] i y below = absurd (omega (arith, below))
get-set_here (x ∷ xs) zero y below = refl
get-set_here (x ∷ xs) (suc i) y below = get-set_here xs i y (omega (arith, below))

module _ {X : Type 0} where
  pub can_take : (slots : List (Option X)) (is : List ℕ) → AtMostOnce is
      → ((i : ℕ) → In i is → (x : X) × (slice_get slots i ≡ Some (Some x))) → CanTake slots is
  can_take slots [] once held = tt
  can_take slots (i ∷ is) once held = (
    held i (inl refl),
    can_take (slice_set slots i None) is (once_later i is once)
        (λ j there. let h = held j (inr there) in (h.0, get-set_other slots i j None (not_later i is once j there) ∙ h.1)),
  )

  -- in the order of several lists of places
  pub can_take_first : (slots : List (Option X)) (is js : List ℕ) → CanTake slots (is ++ js) → CanTake slots is
  can_take_first slots [] js can = tt
  can_take_first slots (i ∷ is) js can = (can.0, can_take_first (slice_set slots i None) is js can.1)

  pub can_take_rest : (slots : List (Option X)) (is js : List ℕ) → CanTake slots (is ++ js) → CanTake (left_at slots is) js
  can_take_rest slots [] js can = can
  can_take_rest slots (i ∷ is) js can = can_take_rest (slice_set slots i None) is js can.1

  -- what is there when its turn comes was there from the beginning
  pub still : (slots : List (Option X)) (i j : ℕ) (x : X) → slice_get (slice_set slots i None) j ≡ Some (Some x)
      → slice_get slots j ≡ Some (Some x)
  still [] i j x e = e
  still (s ∷ slots) zero zero x e = absurd (let f = same_some None (Some x) e in cc)
  still (s ∷ slots) zero (suc j) x e = e
  still (s ∷ slots) (suc i) zero x e = e
  still (s ∷ slots) (suc i) (suc j) x e = still slots i j x e

  pub left_still : (slots : List (Option X)) (is : List ℕ) (j : ℕ) (x : X) → slice_get (left_at slots is) j ≡ Some (Some x)
      → slice_get slots j ≡ Some (Some x)
  left_still slots [] j x e = e
  left_still slots (i ∷ is) j x e = still slots i j x (left_still (slice_set slots i None) is j x e)

  pub left_at-append : (slots : List (Option X)) (is js : List ℕ) → left_at slots (is ++ js) ≡ left_at (left_at slots is) js
  left_at-append slots [] js = refl
  left_at-append slots (i ∷ is) js = left_at-append (slice_set slots i None) is js

  -- ---- full slots

  pub filled-some : (xs : List X) → filled (map (λ x. Some x) xs) ≡ xs
  filled-some [] = refl
  filled-some (x ∷ xs) = ap (λ l. x ∷ l) (filled-some xs)

  pub full-some : (xs : List X) → AllByRecursion IsSome (map (λ x. Some x) xs)
  full-some [] = tt
  full-some (x ∷ xs) = (refl, full-some xs)

  pub length-filled : (slots : List (Option X)) → AllByRecursion IsSome slots → length (filled slots) ≡ length slots
  length-filled [] full = refl
  length-filled (None ∷ slots) full = absurd (let f = full.0 in cc)
  length-filled (Some x ∷ slots) full = ap suc (length-filled slots full.1)

  pub at_filled : (slots : List (Option X)) → AllByRecursion IsSome slots → (i : ℕ) (x : X) → slice_get slots i ≡ Some (Some x)
      → slice_get (filled slots) i ≡ Some x
  at_filled [] full i x e = absurd (let f = e in cc)
  at_filled (None ∷ slots) full i x e = absurd (let f = full.0 in cc)
  at_filled (Some y ∷ slots) full zero x e = same_some (Some y) (Some x) e
  at_filled (Some y ∷ slots) full (suc i) x e = at_filled slots full.1 i x e

  pub at_slot : (slots : List (Option X)) → AllByRecursion IsSome slots → (i : ℕ) (x : X) → slice_get (filled slots) i ≡ Some x
      → slice_get slots i ≡ Some (Some x)
  at_slot [] full i x e = absurd (let f = e in cc)
  at_slot (None ∷ slots) full i x e = absurd (let f = full.0 in cc)
  at_slot (Some y ∷ slots) full zero x e = ap Some e
  at_slot (Some y ∷ slots) full (suc i) x e = at_slot slots full.1 i x e

  pub some_there : (slots : List (Option X)) → AllByRecursion IsSome slots → (i : ℕ) → i < length slots
      → (x : X) × (slice_get slots i ≡ Some (Some x))
  some_there [] full i below = absurd (omega (arith, below))
  some_there (None ∷ slots) full i below = absurd (let f = full.0 in cc)
  some_there (Some x ∷ slots) full zero below = (x, refl)
  some_there (Some x ∷ slots) full (suc i) below = some_there slots full.1 i (omega (arith, below))

  -- slots that have something in each place are full
  pub full_from : (slots : List (Option X)) → ((i : ℕ) → i < length slots → (x : X) × (slice_get slots i ≡ Some (Some x)))
      → AllByRecursion IsSome slots
  full_from [] each = tt
  full_from (s ∷ slots) each = (
    (let first = each 0 (omega arith) in ap is_some (same_some s (Some first.0) first.1)),
    full_from slots (λ i below. each (suc i) (omega (arith, below))),
  )

-- ---- put in their places

pub length-placed : (slots : List (Option JobRan)) (rs : List JobRan) → length (placed slots rs) ≡ length slots
length-placed slots [] = refl
length-placed slots (r ∷ rs) = length-placed (slice_set slots r.place (Some r)) rs ∙ length-set slots r.place (Some r)

pub placed-append : (slots : List (Option JobRan)) (xs ys : List JobRan) → placed slots (xs ++ ys) ≡ placed (placed slots xs) ys
placed-append slots [] ys = refl
placed-append slots (x ∷ xs) ys = placed-append (slice_set slots x.place (Some x)) xs ys

-- what is put in places that are named only once is there in the end
placed_past : (slots : List (Option JobRan)) (is : List ℕ) (rs : List JobRan) → AllZip (λ i r. r.place ≡ i) is rs
    → (i : ℕ) → (In i is → ⊥) → slice_get (placed slots rs) i ≡ slice_get slots i
placed_past slots [] [] z i out = refl
placed_past slots [] (r ∷ rs) z i out = absurd z
placed_past slots (j ∷ is) [] z i out = absurd z
placed_past slots (j ∷ is) (r ∷ rs) z i out =
    placed_past (slice_set slots r.place (Some r)) is rs z.1 i (λ there. out (inr there))
    ∙ get-set_other slots r.place i (Some r) (λ e. out (inl (sym e ∙ z.0)))

pub placed_there : (slots : List (Option JobRan)) (is : List ℕ) (rs : List JobRan) → AllZip (λ i r. r.place ≡ i) is rs → AtMostOnce is
    → ((i : ℕ) → In i is → i < length slots) → AllZip (λ i r. slice_get (placed slots rs) i ≡ Some (Some r)) is rs
placed_there slots [] [] z once inside = tt
placed_there slots [] (r ∷ rs) z once inside = absurd z
placed_there slots (j ∷ is) [] z once inside = absurd z
placed_there slots (j ∷ is) (r ∷ rs) z once inside = (
  placed_past (slice_set slots r.place (Some r)) is rs z.1 j (λ there. not_later j is once j there refl)
      ∙ ap (λ k. slice_get (slice_set slots k (Some r)) j) z.0 ∙ get-set_here slots j (Some r) (inside j (inl refl)),
  placed_there (slice_set slots r.place (Some r)) is rs z.1 (once_later j is once)
      (λ i there. subst (λ n. i < n) (sym (length-set slots r.place (Some r))) (inside i (inr there))),
)

-- what is read at an index stands there
pub get_at : {A : Type 0} (xs : List A) (i : ℕ) (x y : A) → x ≡ get_or xs i x → slice_get xs i ≡ Some y → x ≡ y
get_at [] i x y e f = absurd (let g = f in cc)
get_at (z ∷ xs) zero x y e f = e ∙ same_some z y f
get_at (z ∷ xs) (suc i) x y e f = get_at xs i x y e f
