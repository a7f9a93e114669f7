-- The items of a range, as one slice.
use Rattle.std.proofs.Common.{◌≡◌, ℕ, zero, suc, ◌-◌, ◌<◌, ◌≤◌, ◌&&◌, nat_le, nat_lt, Bool, true, false, List, [], ◌∷◌, length, take, drop}
use Rattle.std.proofs.Common.{ℤ, if◌then◌else◌, refl, sym, ap, ◌∙◌, arith}
use Rattle.std.proofs.lemmas.Bool.Decides.{nat_tests}
use Rattle.std.specs.Prelude.{slice_range}
use Rattle.integers.specs.Range.{is_in_range, items_where, range_items}

-- whether a place is from the first of these to before the second
abbrev is_between : ℕ → ℕ → ℕ → Bool
is_between from to p = nat_le from p && nat_lt p to

none_wanted : {A : Type 0} (wanted : ℕ → Bool) (xs : List A) → ((p : ℕ) → p < length xs → wanted p ≡ false) → items_where wanted xs ≡ []
none_wanted wanted [] unwanted = refl
none_wanted wanted (x ∷ xs) unwanted =
    ap (λ b. if b then x ∷ items_where (λ p. wanted (suc p)) xs else items_where (λ p. wanted (suc p)) xs) (unwanted 0 (omega arith))
    ∙ none_wanted (λ p. wanted (suc p)) xs (λ p h. unwanted (suc p) (omega arith))

below : (p to : ℕ) → p < to → nat_lt p to ≡ true
below p to h = grind (arith, nat_tests)

not_below : (p to : ℕ) → to ≤ p → nat_lt p to ≡ false
not_below p to h = grind (arith, nat_tests)

below_suc : (p to : ℕ) → nat_lt (suc p) (suc to) ≡ nat_lt p to
below_suc p to = grind (arith, nat_tests)

between_suc : (from to p : ℕ) → is_between (suc from) (suc to) (suc p) ≡ is_between from to p
between_suc from to p = grind (arith, nat_tests)

not_between : (from to p : ℕ) → p < from → is_between from to p ≡ false
not_between from to p h = grind (arith, nat_tests)

between_zero : (to p : ℕ) → is_between 0 to p ≡ nat_lt p to
between_zero to p = grind (arith, nat_tests)

first_wanted : {A : Type 0} (wanted : ℕ → Bool) (xs : List A) (to : ℕ) → to ≤ length xs → ((p : ℕ) → p < length xs → wanted p ≡ nat_lt p to)
    → items_where wanted xs ≡ take to xs
first_wanted wanted [] zero h is = refl
first_wanted wanted [] (suc to) h is = absurd (omega arith)
first_wanted wanted (x ∷ xs) zero h is = none_wanted wanted (x ∷ xs) (λ p w. is p w ∙ not_below p 0 (omega arith))
first_wanted wanted (x ∷ xs) (suc to) h is =
    ap (λ b. if b then x ∷ items_where (λ p. wanted (suc p)) xs else items_where (λ p. wanted (suc p)) xs)
    (is 0 (omega arith) ∙ below 0 (suc to) (omega arith))
    ∙ ap (λ l. x ∷ l) (first_wanted (λ p. wanted (suc p)) xs to (omega arith) (λ p w. is (suc p) (omega arith) ∙ below_suc p to))

items_where-slice : {A : Type 0} (wanted : ℕ → Bool) (xs : List A) (from to : ℕ) → from ≤ to → to ≤ length xs
    → ((p : ℕ) → p < length xs → wanted p ≡ is_between from to p) → items_where wanted xs ≡ slice_range xs from to
items_where-slice wanted xs zero to ordered within is =
    let all : to ≡ to - 0 = omega arith in
    first_wanted wanted xs to within (λ p w. is p w ∙ between_zero to p) ∙ ap (λ n. take n xs) all
items_where-slice wanted [] (suc from) to ordered within is = absurd (omega arith)
items_where-slice wanted (x ∷ xs) (suc from) zero ordered within is = absurd (omega arith)
items_where-slice wanted (x ∷ xs) (suc from) (suc to) ordered within is =
    let same : suc to - suc from ≡ to - from = omega arith in
    ap (λ b. if b then x ∷ items_where (λ p. wanted (suc p)) xs else items_where (λ p. wanted (suc p)) xs)
    (is 0 (omega arith) ∙ not_between (suc from) (suc to) 0 (omega arith))
    ∙ items_where-slice (λ p. wanted (suc p)) xs from to (omega arith) (omega arith)
    (λ p w. is (suc p) (omega arith) ∙ between_suc from to p)
    ∙ ap (λ n. take n (drop from xs)) (sym same)

-- what `range_of` says of the places is enough to find the items of a range in one slice
pub range_items-slice : {A : Type 0} (start end : ℤ) (xs : List A) (from to : ℕ) → from ≤ to → to ≤ length xs
    → ((p : ℕ) → p < length xs → is_in_range start end (length xs) p ≡ (nat_le from p && nat_lt p to))
    → range_items start end xs ≡ slice_range xs from to
range_items-slice start end xs from to ordered within is =
    items_where-slice (is_in_range start end (length xs)) xs from to ordered within is
