-- What sorting does to a list: the same elements, ascending.
use Rattle.std.proofs.Common.{◌≡◌, List, [], ◌∷◌, Bool, true, false, cond, inl, inr, refl, ap, ◌∙◌}
use Rattle.std.proofs.lemmas.List.Sorted.{IsPermutation-refl, IsPermutation-trans, IsPermutation-append_comm, IsPermutation-append_left}
use Rattle.std.proofs.lemmas.List.Sorted.{IsPermutation-append_right}
use Rattle.std.specs.List.Sorted.{IsPermutation}
use Rattle.groups.proofs.Stamps.{lt_asym, le_trans}
use Rattle.groups.specs.Order.{In}
use Rattle.groups.specs.Stamp.{stamp_lt}
use Rattle.execution_order.specs.Entries.{Entry, Row, entries_of, insert_by, sort_by, by_stamp, rows_by_stamp, AscendsByStamp}
use Rattle.execution_order.specs.Laws.{SortingAscends}

-- ---- what stands in a sorted list

-- an element of a list with the same first element
in_rest : {X : Type 0} (x z : X) (xs ys : List X) → (In z xs → In z ys) → In z (x ∷ xs) → In z (x ∷ ys)
in_rest x z xs ys within (inl e) = inl e
in_rest x z xs ys within (inr i) = inr (within i)

in_swapped : {X : Type 0} (x y z : X) (ys : List X) → In z (y ∷ x ∷ ys) → In z (x ∷ y ∷ ys)
in_swapped x y z ys (inl e) = inr (inl e)
in_swapped x y z ys (inr (inl e)) = inl e
in_swapped x y z ys (inr (inr i)) = inr (inr i)

-- what stands in a sorted list stood in the list
pub In-insert : {X : Type 0} (below : X → X → Bool) (x : X) (ys : List X) (z : X) → In z (insert_by below x ys) → In z (x ∷ ys)
In-insert below x [] z i = i
In-insert below x (y ∷ ys) z i =
    elim (below y x) as (λ b. In z (cond b (y ∷ insert_by below x ys) (x ∷ y ∷ ys)) → In z (x ∷ y ∷ ys)) [
      | true ↦ λ j. in_swapped x y z ys (in_rest y z (insert_by below x ys) (x ∷ ys) (In-insert below x ys z) j)
      | false ↦ λ j. j
    ] i

pub In-sort : {X : Type 0} (below : X → X → Bool) (xs : List X) (z : X) → In z (sort_by below xs) → In z xs
In-sort below [] z i = i
In-sort below (x ∷ xs) z i = in_rest x z (sort_by below xs) xs (In-sort below xs z) (In-insert below x (sort_by below xs) z i)

-- ---- the same elements

IsPermutation-first : {X : Type 0} (x : X) (xs ys : List X) → IsPermutation xs ys → IsPermutation (x ∷ xs) (x ∷ ys)
IsPermutation-first x xs ys same = IsPermutation-append_right (x ∷ []) xs ys same

IsPermutation-swap : {X : Type 0} (x y : X) (ys : List X) → IsPermutation (x ∷ y ∷ ys) (y ∷ x ∷ ys)
IsPermutation-swap x y ys = IsPermutation-append_left ys (x ∷ y ∷ []) (y ∷ x ∷ []) (IsPermutation-append_comm (x ∷ []) (y ∷ []))

pub IsPermutation-insert_by : {X : Type 0} (below : X → X → Bool) (x : X) (ys : List X) → IsPermutation (x ∷ ys) (insert_by below x ys)
IsPermutation-insert_by below x [] = IsPermutation-refl (x ∷ [])
IsPermutation-insert_by below x (y ∷ ys) =
    elim (below y x) as (λ b. IsPermutation (x ∷ y ∷ ys) (cond b (y ∷ insert_by below x ys) (x ∷ y ∷ ys))) [
      | true ↦ IsPermutation-trans _ _ _ (IsPermutation-swap x y ys)
          (IsPermutation-first y (x ∷ ys) (insert_by below x ys) (IsPermutation-insert_by below x ys))
      | false ↦ IsPermutation-refl (x ∷ y ∷ ys)
    ]

pub IsPermutation-sort_by : {X : Type 0} (below : X → X → Bool) (xs : List X) → IsPermutation xs (sort_by below xs)
IsPermutation-sort_by below [] = IsPermutation-refl []
IsPermutation-sort_by below (x ∷ xs) =
    IsPermutation-trans _ _ _ (IsPermutation-first x xs (sort_by below xs) (IsPermutation-sort_by below xs))
    (IsPermutation-insert_by below x (sort_by below xs))

-- ---- ascending

abbrev earlier : Entry → Entry → Bool
earlier e f = stamp_lt e.stamp f.stamp

AscendsByStamp-insert : (e : Entry) (fs : List Entry) → AscendsByStamp fs → AscendsByStamp (insert_by earlier e fs)
AscendsByStamp-insert e [] up = ((λ f i. absurd i), tt)
AscendsByStamp-insert e (f ∷ fs) up =
    elim (earlier f e) as (λ b. earlier f e ≡ b → AscendsByStamp (cond b (f ∷ insert_by earlier e fs) (e ∷ f ∷ fs))) [
      | true ↦ λ less. (
        (λ g i. behind f e fs (lt_asym f.stamp e.stamp less) up.0 g (In-insert earlier e fs g i)),
        AscendsByStamp-insert e fs up.1,
      )
      | false ↦ λ more. ((λ g i. behind e f fs more (λ h j. le_trans e.stamp f.stamp h.stamp more (up.0 h j)) g i), up)
    ] refl
  where
    -- none is below e: not the first of them, and none of the others
    behind : (a b : Entry) (es : List Entry) → earlier b a ≡ false → ((h : Entry) → In h es → earlier h a ≡ false) → (g : Entry)
        → In g (b ∷ es) → earlier g a ≡ false
    behind a b es here others g (inl e') = ap (λ h. earlier h a) e' ∙ here
    behind a b es here others g (inr i) = others g i

pub AscendsByStamp-by_stamp : (es : List Entry) → AscendsByStamp (by_stamp es)
AscendsByStamp-by_stamp [] = tt
AscendsByStamp-by_stamp (e ∷ es) = AscendsByStamp-insert e (by_stamp es) (AscendsByStamp-by_stamp es)

-- ---- rows are sorted as their requests

abbrev row_earlier : Row → Row → Bool
row_earlier r s = stamp_lt r.entry.stamp s.entry.stamp

entries-insert : (r : Row) (rows : List Row) → entries_of (insert_by row_earlier r rows) ≡ insert_by earlier r.entry (entries_of rows)
entries-insert r [] = refl
entries-insert r (s ∷ rows) =
    elim (row_earlier s r) as (λ b. entries_of (cond b (s ∷ insert_by row_earlier r rows) (r ∷ s ∷ rows))
    ≡ cond b (s.entry ∷ insert_by earlier r.entry (entries_of rows)) (r.entry ∷ s.entry ∷ entries_of rows)) [
      | true ↦ ap (λ l. s.entry ∷ l) (entries-insert r rows)
      | false ↦ refl
    ]

pub entries-rows_by_stamp : (rows : List Row) → entries_of (rows_by_stamp rows) ≡ by_stamp (entries_of rows)
entries-rows_by_stamp [] = refl
entries-rows_by_stamp (r ∷ rows) = entries-insert r (rows_by_stamp rows) ∙ ap (insert_by earlier r.entry) (entries-rows_by_stamp rows)

pub sorting_ascends : SortingAscends
sorting_ascends rows = (IsPermutation-sort_by row_earlier rows, entries-rows_by_stamp rows, AscendsByStamp-by_stamp (entries_of rows))
