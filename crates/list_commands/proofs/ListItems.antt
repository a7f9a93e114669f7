-- Items of a list, by their places.
use Rattle.std.proofs.Common.{◌≡◌, ℕ, suc, ◌+◌, ◌-◌, ◌<◌, ◌≤◌, List, [], ◌∷◌, ◌++◌, length, take, drop, get_or, Some, None}
use Rattle.std.proofs.Common.{slice_get, sym, ap, ◌∙◌, arith, drop-cons}
use Rattle.std.proofs.lemmas.List.{drop_all, get_or-drop, length-drop, take_all}
use Rattle.std.proofs.lemmas.Option.{slice_get_within, get_or_from_slice_get, slice_get-get_or}
use Rattle.std.specs.Prelude.{insert, slice_range}
use Rattle.texts.specs.Texts.{Bytes}
use Rattle.texts.proofs.Lists.{take_next}

pub first-item : (xs : List Bytes) (t : Bytes) → slice_get xs 0 ≡ Some t → t ∷ [] ≡ take 1 xs
first-item [] t e = absurd (cc)
first-item (x ∷ xs) t e = ap (λ y. y ∷ []) (cc)

pub last-item : (xs : List Bytes) (n : ℕ) (t : Bytes) → suc n ≡ length xs → slice_get xs n ≡ Some t → t ∷ [] ≡ drop n xs
last-item xs n t long e =
    sym (drop-cons xs n t (slice_get_within xs n t e)
    ∙ ap (λ y. y ∷ drop (suc n) xs) (get_or_from_slice_get xs n t t e)
    ∙ ap (λ l. t ∷ l) (drop_all (suc n) xs (omega (arith, long))))

pub insert-behind : (xs : List Bytes) (n : ℕ) (t : Bytes) → n ≡ length xs → insert xs n t ≡ xs ++ t ∷ []
insert-behind xs n t long =
    ap (λ l. l ++ t ∷ drop n xs) (take_all n xs (omega (arith, long))) ∙ ap (λ l. xs ++ t ∷ l) (drop_all n xs (omega (arith, long)))

slice_get-drop : (xs : List Bytes) (from i : ℕ) (t : Bytes) → from ≤ i → slice_get xs i ≡ Some t
    → slice_get (drop from xs) (i - from) ≡ Some t
slice_get-drop xs from i t le e =
    let within : i < length xs = slice_get_within xs i t e in
    let here : from + (i - from) ≡ i = omega arith in
    slice_get-get_or (drop from xs) (i - from) t (omega (arith, length-drop from xs))
    ∙ ap Some (get_or-drop from xs (i - from) t ∙ ap (λ k. get_or xs k t) here ∙ get_or_from_slice_get xs i t t e)

-- one item more of a slice
pub slice_range-next : (xs : List Bytes) (from i : ℕ) (t : Bytes) → from ≤ i → slice_get xs i ≡ Some t
    → slice_range xs from (i + 1) ≡ slice_range xs from i ++ t ∷ []
slice_range-next xs from i t le e =
    let one_more : i + 1 - from ≡ (i - from) + 1 = omega arith in
    ap (λ n. take n (drop from xs)) one_more ∙ take_next (drop from xs) (i - from) t (slice_get-drop xs from i t le e)

pub slice_range-none : (xs : List Bytes) (from : ℕ) → slice_range xs from from ≡ []
slice_range-none xs from = let none : from - from ≡ 0 = omega arith in ap (λ n. take n (drop from xs)) none

-- a place of the list has an item
pub item_within : (xs : List Bytes) (i : ℕ) → i < length xs → slice_get xs i ≡ None → ⊥
item_within xs i within none = let there : slice_get xs i ≡ Some (get_or xs i []) = slice_get-get_or xs i [] within in absurd (cc)

pub ruleset ends = (first-item, last-item, insert-behind)
