-- What lies beside the packed rows is found by its place, and the rows with it are seen as they were put.
use Rattle.std.proofs.Common.{◌≡◌, ℕ, zero, suc, ◌+◌, ◌<◌, ◌≤◌, ◌≢◌, List, [], ◌∷◌, ◌++◌, length, Some, None, slice_get}
use Rattle.std.proofs.Common.{refl, ap, sym, ◌∙◌, arith, slice_index_or, Result, Ok, Err, MatchResult, ⊎_elim}
use Rattle.std.proofs.lemmas.Bool.{cases_lt}
use Rattle.std.proofs.lemmas.Bool.Decides.{nat_tests}
use Rattle.std.proofs.lemmas.Cmp.{ranked}
use Rattle.std.proofs.lemmas.List.{length_push}
use Rattle.std.proofs.lemmas.Option.{slice_get-get_or}
use Rattle.std.specs.List.Sorted.{IsSearchInRange, IsBinarySearchResult, IsNonDecreasingBy}
use Rattle.std.specs.Ordering.{nat_cmp, ordering_index}
use Rattle.groups.specs.declared.request.RequestId.{RequestId}
use Rattle.groups.specs.declared.stamp.Stamp.{Stamp}
use Rattle.journal.specs.Views.{RowView, row_view}
use Rattle.journal.specs.LongRows.{long_at, packed_reply, text_or, whole, all_whole, Ascend}
use Rattle.journal.specs.declared.long_rows.LongRow.{LongRow}
use Rattle.resp.specs.declared.answered.TheConstants.{LONG}

-- ---- places

pub Ascend-low : (longs : List LongRow) (low count : ℕ) → Ascend longs low count → low ≤ count
Ascend-low [] low count are = are
Ascend-low (l ∷ ls) low count are = omega (arith, Ascend-low ls (l.place + 1) count are.1, are.0)

-- one row more, without long parts
pub Ascend-more : (longs : List LongRow) (low count : ℕ) → Ascend longs low count → Ascend longs low (count + 1)
Ascend-more [] low count are = omega arith
Ascend-more (l ∷ ls) low count are = (are.0, Ascend-more ls (l.place + 1) count are.1)

-- one row more, with long parts
pub Ascend-push : (longs : List LongRow) (long : LongRow) (low count : ℕ) → Ascend longs low count → long.place ≡ count
    → Ascend (longs ++ long ∷ []) low (count + 1)
Ascend-push [] long low count are here = (omega arith, omega arith)
Ascend-push (l ∷ ls) long low count are here = (are.0, Ascend-push ls long (l.place + 1) count are.1 here)

-- ---- what lies beside a place

-- nothing lies beside a place behind all rows
pub past-none : (longs : List LongRow) (low count place : ℕ) → Ascend longs low count → count ≤ place → long_at longs place ≡ None
past-none [] low count place are h = refl
past-none (l ∷ ls) low count place are h =
    let within = Ascend-low ls (l.place + 1) count are.1 in
    grind (arith, nat_tests, within, past-none ls (l.place + 1) count place are.1 h)

pub added-here : (longs : List LongRow) (long : LongRow) → long_at longs long.place ≡ None
    → long_at (longs ++ long ∷ []) long.place ≡ Some long
added-here [] long none = grind (arith, nat_tests)
added-here (l ∷ ls) long none = grind (arith, nat_tests, added-here ls long)

added-elsewhere : (longs : List LongRow) (long : LongRow) (place : ℕ) → place < long.place
    → long_at (longs ++ long ∷ []) place ≡ long_at longs place
added-elsewhere [] long place h = grind (arith, nat_tests)
added-elsewhere (l ∷ ls) long place h = grind (arith, nat_tests, added-elsewhere ls long place h)

-- ---- rows with their long parts

pub length-all_whole : (longs : List LongRow) (place : ℕ) (rows : List RowView) → length (all_whole longs place rows) ≡ length rows
length-all_whole longs place [] = refl
length-all_whole longs place (row ∷ rows) = ap suc (length-all_whole longs (place + 1) rows)

pub whole-none : (longs : List LongRow) (place i : ℕ) (rows : List RowView) → slice_get rows i ≡ None
    → slice_get (all_whole longs place rows) i ≡ None
whole-none longs place i [] none = none
whole-none longs place zero (row ∷ rows) none = cc
whole-none longs place (suc i) (row ∷ rows) none = whole-none longs (place + 1) i rows none

pub whole-at : (longs : List LongRow) (place i : ℕ) (rows : List RowView) (row : RowView) → slice_get rows i ≡ Some row
    → slice_get (all_whole longs place rows) i ≡ Some (whole row (long_at longs (place + i)))
whole-at longs place i [] row here = cc
whole-at longs place zero (r ∷ rows) row here =
    let same : r ≡ row = cc in let at : place ≡ place + 0 = omega arith in
    ap (λ x. Some (whole x (long_at longs place))) same ∙ ap (λ n. Some (whole row (long_at longs n))) at
whole-at longs place (suc i) (r ∷ rows) row here =
    let at : place + 1 + i ≡ place + suc i = omega arith in
    whole-at longs (place + 1) i rows row here ∙ ap (λ n. Some (whole row (long_at longs n))) at

-- a packed row more
whole-push : (longs : List LongRow) (place : ℕ) (rows : List RowView) (row : RowView)
    → all_whole longs place (rows ++ row ∷ []) ≡ all_whole longs place rows ++ whole row (long_at longs (place + length rows)) ∷ []
whole-push longs place [] row =
    let at : place ≡ place + 0 = omega arith in ap (λ n. whole row (long_at longs n) ∷ []) at
whole-push longs place (r ∷ rows) row =
    let at : place + 1 + length rows ≡ place + suc (length rows) = omega arith in
    ap (λ rs. whole r (long_at longs place) ∷ rs) (whole-push longs (place + 1) rows row
    ∙ ap (λ n. all_whole longs (place + 1) rows ++ whole row (long_at longs n) ∷ []) at)

-- long parts more, of a row behind these
whole-beside : (longs : List LongRow) (long : LongRow) (place : ℕ) (rows : List RowView) → place + length rows ≤ long.place
    → all_whole (longs ++ long ∷ []) place rows ≡ all_whole longs place rows
whole-beside longs long place [] h = refl
whole-beside longs long place (r ∷ rows) h =
    let here = added-elsewhere longs long place (omega arith) in
    rw (here, whole-beside longs long (place + 1) rows (omega arith)) refl

-- a row without long parts more
pub short-more : (longs : List LongRow) (rows : List RowView) (row : RowView) → Ascend longs 0 (length rows)
    → all_whole longs 0 (rows ++ row ∷ []) ≡ all_whole longs 0 rows ++ row ∷ []
short-more longs rows row are =
    let none = past-none longs 0 (length rows) (0 + length rows) are (omega arith) in
    whole-push longs 0 rows row ∙ ap (λ o. all_whole longs 0 rows ++ whole row o ∷ []) none

-- a row with long parts more
pub long-more : (longs : List LongRow) (long : LongRow) (rows : List RowView) (row : RowView) → Ascend longs 0 (length rows)
    → long.place ≡ length rows
    → all_whole (longs ++ long ∷ []) 0 (rows ++ row ∷ []) ≡ all_whole longs 0 rows ++ whole row (Some long) ∷ []
long-more longs long rows row are here =
    let at : 0 + length rows ≡ long.place = omega arith in
    let none = past-none longs 0 (length rows) long.place are (omega arith) in
    let found = ap (long_at (longs ++ long ∷ [])) at ∙ added-here longs long none in
    let before = whole-beside longs long 0 rows (omega arith) in
    whole-push (longs ++ long ∷ []) 0 rows row ∙ rw (found, before) refl

-- a text that isn't empty stands for the reply
pub text_or-none : (text reply : List ℕ) → length text ≡ 0 → text_or text reply ≡ reply
text_or-none [] reply none = refl
text_or-none (b ∷ bs) reply none = absurd (omega arith)

pub text_or-some : (text reply : List ℕ) → 0 < length text → text_or text reply ≡ text
text_or-some [] reply some = absurd (omega arith)
text_or-some (b ∷ bs) reply some = refl

-- packed or not, the reply is there
reply-there : (text reply : List ℕ) → (0 < length text → text ≡ reply) → text_or text (packed_reply text reply) ≡ reply
reply-there [] reply same = refl
reply-there (b ∷ bs) reply same = same (omega arith)

-- what is packed of a reply is short: all of it where there is no text beside it, else nothing
pub packed_is_short : (text reply : List ℕ) → (text ≡ [] → length reply ≤ LONG) → length (packed_reply text reply) ≤ LONG
packed_is_short [] reply short = short refl
packed_is_short (b ∷ bs) reply short = omega arith

pub reply_is_short : (text reply : List ℕ) → length text ≡ 0 → (text ≡ [] → length reply ≤ LONG) → length reply ≤ LONG
reply_is_short [] reply none short = short refl
reply_is_short (b ∷ bs) reply none short = absurd (omega arith)

pub whole-is : (id : RequestId) (stamp : Stamp) (words : List (List ℕ)) (reply : List ℕ) (long : LongRow)
    → (0 < length long.text.items → long.text.items ≡ reply)
    → whole (row_view id stamp words (packed_reply long.text.items reply)) (Some long) ≡ row_view id stamp long.words reply
whole-is id stamp words reply long same = ap (row_view id stamp long.words) (reply-there long.text.items reply same)

-- what a row more leaves: its places ascend, and it is seen behind the others
pub record IsSeen (longs : List LongRow) (before : List RowView) (row : RowView) (packed : List RowView) : Type 0 where
  pub ascend : Ascend longs 0 (length packed)
  pub seen : all_whole longs 0 packed ≡ before ++ row ∷ []

pub short-seen : (longs : List LongRow) (rows packed : List RowView) (row : RowView) → Ascend longs 0 (length rows)
    → packed ≡ rows ++ row ∷ [] → IsSeen longs (all_whole longs 0 rows) row packed
short-seen longs rows packed row are push = record {
  ascend = rw (push, length_push rows row) (Ascend-more longs 0 (length rows) are);
  seen = ap (all_whole longs 0) push ∙ short-more longs rows row are;
}

pub long-seen : (longs all : List LongRow) (long : LongRow) (rows packed : List RowView) (id : RequestId) (stamp : Stamp)
    (words : List (List ℕ)) (reply : List ℕ) → Ascend longs 0 (length rows) → long.place ≡ length rows
    → (0 < length long.text.items → long.text.items ≡ reply)
    → packed ≡ rows ++ row_view id stamp words (packed_reply long.text.items reply) ∷ [] → all ≡ longs ++ long ∷ []
    → IsSeen all (all_whole longs 0 rows) (row_view id stamp long.words reply) packed
long-seen longs all long rows packed id stamp words reply are here same push beside =
    let row = row_view id stamp words (packed_reply long.text.items reply) in record {
      ascend = rw (push, beside, length_push rows row) (Ascend-push longs long 0 (length rows) are here);
      seen = rw (push, beside) (long-more longs long rows row are here)
          ∙ ap (λ r. all_whole longs 0 rows ++ r ∷ []) (whole-is id stamp words reply long same);
    }

-- ---- the search

-- a place is not below the lowest
index-low : (longs : List LongRow) (low count i : ℕ) (d : LongRow) → Ascend longs low count → i < length longs
    → low ≤ (slice_index_or longs i d).place
index-low [] low count i d are h = absurd (omega arith)
index-low (l ∷ ls) low count zero d are h = are.0
index-low (l ∷ ls) low count (suc i) d are h = omega (arith, are.0, index-low ls (l.place + 1) count i d are.1 (omega arith))

index-rises : (longs : List LongRow) (low count i j : ℕ) (d : LongRow) → Ascend longs low count → i ≤ j → j < length longs
    → (slice_index_or longs i d).place ≤ (slice_index_or longs j d).place
index-rises [] low count i j d are le h = absurd (omega arith)
index-rises (l ∷ ls) low count zero zero d are le h = omega arith
index-rises (l ∷ ls) low count zero (suc j) d are le h = omega (arith, index-low ls (l.place + 1) count j d are.1 (omega arith))
index-rises (l ∷ ls) low count (suc i) zero d are le h = absurd (omega arith)
index-rises (l ∷ ls) low count (suc i) (suc j) d are le h = index-rises ls (l.place + 1) count i j d are.1 (omega arith) (omega arith)

-- what has the place is what lies beside it
found-at : (longs : List LongRow) (low count i place : ℕ) (d : LongRow) → Ascend longs low count → i < length longs
    → (slice_index_or longs i d).place ≡ place → long_at longs place ≡ Some (slice_index_or longs i d)
found-at [] low count i place d are h same = absurd (omega arith)
found-at (l ∷ ls) low count zero place d are h same = grind (arith, nat_tests)
found-at (l ∷ ls) low count (suc i) place d are h same =
    let above = index-low ls (l.place + 1) count i d are.1 (omega arith) in
    grind (arith, nat_tests, above, found-at ls (l.place + 1) count i place d are.1 (omega arith) same)

-- where nothing has the place nothing lies beside it
found-none : (longs : List LongRow) (place : ℕ) (d : LongRow)
    → ((i : ℕ) → i < length longs → (slice_index_or longs i d).place ≢ place) → long_at longs place ≡ None
found-none [] place d differ = refl
found-none (l ∷ ls) place d differ =
    grind (arith, nat_tests, differ 0 (omega arith), found-none ls place d (λ i h. differ (suc i) (omega arith)))

module _ (longs : List LongRow) (count place : ℕ) (are : Ascend longs 0 count) where
  -- the comparisons with the place rise, as a binary search asks
  rises : IsNonDecreasingBy (λ long. ordering_index (nat_cmp long.place place)) longs
  rises i j d le h = let up = index-rises longs 0 count i j d are le h in grind (arith, nat_tests)

  searched_by : LongRow → (r : Result ℕ ℕ) → IsSearchInRange r (length longs)
      → IsBinarySearchResult (λ long. nat_cmp long.place place) longs r
      → MatchResult r (λ i. slice_get longs i ≡ long_at longs place) (λ i. long_at longs place ≡ None)
  searched_by d (Ok i) within equal =
      slice_get-get_or longs i d within ∙ sym (found-at longs 0 count i place d are within (ranked _ place _ (sym (equal d))))
  searched_by d (Err i) within parted = found-none longs place d (λ j h same. ⊎_elim
      (λ below. absurd (omega (arith, ranked _ place _ (sym ((parted rises).0 j d (omega arith) below)), same)))
      (λ above. absurd (omega (arith, ranked _ place _ (sym ((parted rises).1 j d above h)), same)))
      (cases_lt j i))

-- a binary search by the places finds what lies beside one
pub searched : (longs : List LongRow) (count place : ℕ) → Ascend longs 0 count → (r : Result ℕ ℕ) → IsSearchInRange r (length longs)
    → IsBinarySearchResult (λ long. nat_cmp long.place place) longs r
    → MatchResult r (λ i. slice_get longs i ≡ long_at longs place) (λ i. long_at longs place ≡ None)
searched [] count place are (Ok i) within found = absurd (omega (arith, within))
searched [] count place are (Err i) within found = refl
searched (l ∷ ls) count place are r within found = searched_by (l ∷ ls) count place are l r within found
