-- What is kept of steps and rows stays as it has to be, and is seen as it was put.
use Rattle.std.proofs.Common.{◌≡◌, ℕ, zero, suc, ◌+◌, ◌-◌, ◌<◌, ◌≤◌, ◌^◌, refl, ap, sym}
use Rattle.std.proofs.Common.{List, [], ◌∷◌, ◌++◌, length, take, drop, map, get_or}
use Rattle.std.proofs.Common.{subst, ◌∙◌, arith, length-append, false, ◌==◌, Some, slice_get}
use Rattle.std.specs.List.{flat_map, AllByRecursion}
use Rattle.std.proofs.lemmas.List.{append-nil, append_assoc, take_at, drop_at, take-append-drop, length_push}
use Rattle.std.proofs.lemmas.Bool.Decides.{nat_tests}
use Rattle.std.proofs.lemmas.List.Concat.{flat_map-append}
use Rattle.packing.specs.CodeLaws.{all_more, take_codes, drop_codes}
use Rattle.journal.specs.declared.step.Step.{Step}
use Rattle.groups.specs.declared.request.RequestId.{RequestId}
use Rattle.groups.specs.declared.stamp.Stamp.{Stamp}
use Rattle.journal.specs.Views.{RowView, row_view}
use Rattle.journal.specs.Codes.{step_code, StepFits, steps_in, AreSteps, row_code, row_of, RowFits, rows_in, ends_from, end_before, AreRows}
use Rattle.journal.specs.Codes.{head_code, HeadFits, RowWords}
use Rattle.journal.proofs.CodeLaws.{steps_in-codes, steps-few, row_of-code, row_code-is}
use Rattle.journal.proofs.Cuts.{length-ends_from, ends_from-push, get_or-ends_from, cut-ends_from}

-- one thing more behind the others
codes-push : {A : Type 0} (code : A → List ℕ) (xs : List A) (x : A) → flat_map code (xs ++ x ∷ []) ≡ flat_map code xs ++ code x
codes-push code xs x = flat_map-append code xs (x ∷ []) ∙ ap (λ c. flat_map code xs ++ c) (append-nil (code x))

-- ---- steps

pub steps-push : (steps : List Step) (step : Step) (max count : ℕ) (bytes : List ℕ) → AreSteps steps max count bytes → StepFits step
    → steps_in (count + 1) (bytes ++ step_code step) ≡ steps ++ step ∷ []
steps-push steps step max count bytes are fits =
    let coded : bytes ++ step_code step ≡ flat_map step_code (steps ++ step ∷ []) = ap (λ b. b ++ step_code step) are.coded ∙ sym
    (codes-push step_code steps step) in
    let counted : count + 1 ≡ length (steps ++ step ∷ []) = ap (λ n. n + 1) are.counted ∙ sym (length_push steps step) in
    rw (coded, counted) (steps_in-codes (steps ++ step ∷ []) (all_more StepFits steps step are.fit fits))

pub AreSteps-push : (steps : List Step) (step : Step) (max count : ℕ) (bytes : List ℕ) → AreSteps steps max count bytes → StepFits step
    → AreSteps (steps ++ step ∷ []) max (count + 1) (bytes ++ step_code step)
AreSteps-push steps step max count bytes are fits = record {
  least = are.least;
  greatest = are.greatest;
  counted = ap (λ n. n + 1) are.counted ∙ sym (length_push steps step);
  coded = ap (λ b. b ++ step_code step) are.coded ∙ sym (codes-push step_code steps step);
  fit = all_more StepFits steps step are.fit fits;
}

-- there are no more steps than bytes
pub count-few : (steps : List Step) (max count : ℕ) (bytes : List ℕ) → AreSteps steps max count bytes → count ≤ length bytes
count-few steps max count bytes are = omega (arith, are.counted, steps-few steps, ap length are.coded)

-- ---- rows

rows_of-codes : (rows : List RowView) → AllByRecursion RowFits rows → map row_of (map row_code rows) ≡ rows
rows_of-codes [] fit = refl
rows_of-codes (r ∷ rs) fit = rw (row_of-code r fit.0, rows_of-codes rs fit.1) refl

pub rows_in-codes : (rows : List RowView) → AllByRecursion RowFits rows → rows_in (flat_map row_code rows)
    (ends_from row_code 0 rows) ≡ rows
rows_in-codes rows fit = ap (map row_of) (cut-ends_from row_code [] rows) ∙ rows_of-codes rows fit

pub rows_in-kept : (rows : List RowView) (bytes ends : List ℕ) → AreRows rows bytes ends → rows_in bytes ends ≡ rows
rows_in-kept rows bytes ends are = rw (are.coded, are.ended) (rows_in-codes rows are.fit)

pub AreRows-push : (rows : List RowView) (row : RowView) (bytes ends : List ℕ) → AreRows rows bytes ends → RowFits row
    → AreRows (rows ++ row ∷ []) (bytes ++ row_code row) (ends ++ length (bytes ++ row_code row) ∷ [])
AreRows-push rows row bytes ends are fits = record {
  coded = ap (λ b. b ++ row_code row) are.coded ∙ sym (codes-push row_code rows row);
  ended =
      let long : length (bytes ++ row_code row) ≡ 0 + length (flat_map row_code rows) + length (row_code row) = omega
      (arith, length-append bytes (row_code row), ap length are.coded) in
      rw (are.ended, long, ends_from-push row_code 0 rows row) refl;
  fit = all_more RowFits rows row are.fit fits;
}

-- where the first n rows end
pub rows-end : (rows : List RowView) (bytes ends : List ℕ) (n : ℕ) → AreRows rows bytes ends → n ≤ length rows
    → end_before ends n ≡ length (flat_map row_code (take n rows))
rows-end rows bytes ends zero are h = refl
rows-end rows bytes ends (suc n) are h =
    let back : suc n - 1 ≡ n = omega arith in let more : (suc n == 0) ≡ false = grind (arith, nat_tests) in
    rw (more, back) (ap (λ es. get_or es n 0) are.ended ∙ get_or-ends_from row_code 0 rows n 0 (omega arith) ∙ omega arith)

pub length-ends : (rows : List RowView) (bytes ends : List ℕ) → AreRows rows bytes ends → length ends ≡ length rows
length-ends rows bytes ends are = ap length are.ended ∙ length-ends_from row_code 0 rows

codes-split : {A : Type 0} (code : A → List ℕ) (n : ℕ) (xs : List A) → flat_map code xs ≡ flat_map code (take n xs) ++ flat_map code
    (drop n xs)
codes-split code n xs = sym (ap (flat_map code) (take-append-drop n xs)) ∙ flat_map-append code (take n xs) (drop n xs)

-- a row whose parts were put one behind another
pub AreRows-put : (rows : List RowView) (row : RowView) (bytes ends new_bytes new_ends : List ℕ) (stop : ℕ) → AreRows rows bytes ends
    → RowFits row
    → new_bytes ≡ bytes ++ row_code row → new_ends ≡ ends ++ stop ∷ [] → stop ≡ length new_bytes
    → AreRows (rows ++ row ∷ []) new_bytes new_ends
AreRows-put rows row bytes ends new_bytes new_ends stop are fits put ended here = rw (ended, here, put)
    (AreRows-push rows row bytes ends are fits)

-- the rows that are seen are those that are kept
pub AreRows-seen : (rows : List RowView) (bytes ends : List ℕ) → AreRows rows bytes ends → (rows_in bytes ends ≡ rows) × AreRows
    (rows_in bytes ends) bytes ends
AreRows-seen rows bytes ends are = let same = rows_in-kept rows bytes ends are in (same, rw same are)

-- ---- the row at a place

all_at : {A : Type 0} (P : A → Type 0) (xs : List A) (i : ℕ) (x : A) → AllByRecursion P xs → slice_get xs i ≡ Some x → P x
all_at P [] i x all e = cc
all_at P (y ∷ ys) zero x all e = let same : y ≡ x = cc in subst P same all.0
all_at P (y ∷ ys) (suc i) x all e = all_at P ys i x all.1 e

pub record RowAt (rows : List RowView) (bytes : List ℕ) (start stop place : ℕ) : Type 0 where
  pub row : RowView
  pub here : slice_get rows place ≡ Some row
  pub low : start ≤ stop
  pub high : stop ≤ length bytes
  pub piece : take (stop - start) (drop start bytes) ≡ row_code row
  pub fit : RowFits row

some_at : {A : Type 0} (xs : List A) (i : ℕ) → i < length xs → (x : A) × (slice_get xs i ≡ Some x)
some_at [] i h = absurd (omega arith)
some_at (x ∷ xs) zero h = (x, refl)
some_at (x ∷ xs) (suc i) h = some_at xs i (omega arith)

pub row-at : (rows : List RowView) (bytes ends : List ℕ) (start stop place : ℕ) → AreRows rows bytes ends → place < length rows
    → start ≡ end_before ends place → stop ≡ end_before ends (place + 1) → RowAt rows bytes start stop place
row-at rows bytes ends start stop place are h from to =
    let found = some_at rows place h in let row = found.0 in
    let front = flat_map row_code (take place rows) in let back = flat_map row_code (drop (place + 1) rows) in
    let s : start ≡ length front = from ∙ rows-end rows bytes ends place are (omega arith) in
    let more : flat_map row_code (take (place + 1) rows) ≡ front ++ row_code row = take_codes row_code rows place row found.1 in
    let e : stop ≡ length front + length (row_code row) = to ∙ rows-end rows bytes ends (place + 1) are (omega arith) ∙ ap length more
    ∙ length-append front (row_code row) in
    let whole : bytes ≡ front ++ (row_code row ++ back) = are.coded ∙ codes-split row_code place rows ∙ ap (λ b. front ++ b)
    (drop_codes row_code rows place row found.1) in
    let rest : drop start bytes ≡ row_code row ++ back = rw whole (drop_at front (row_code row ++ back) start (sym s)) in
    record {
      row = row;
      here = found.1;
      low = omega arith;
      high = omega (arith, ap length whole, length-append front (row_code row ++ back), length-append (row_code row) back);
      piece = rw rest (take_at (row_code row) back (stop - start) (omega arith));
      fit = all_at RowFits rows place row are.fit found.1;
    }

-- ---- a row that was put

-- the rows seen are those before and this one, and are kept as they have to be
pub record IsAdded (rows : List RowView) (row : RowView) (bytes ends : List ℕ) : Type 0 where
  pub seen : rows_in bytes ends ≡ rows ++ row ∷ []
  pub kept : AreRows (rows_in bytes ends) bytes ends

pub row-put : (rows : List RowView) (id : RequestId) (stamp : Stamp) (words : List (List ℕ))
    (coded reply bytes ends new_bytes new_ends : List ℕ) (stop : ℕ)
    → AreRows rows bytes ends → HeadFits id stamp → RowWords words coded → length coded < 2 ^ 64
    → new_bytes ≡ bytes ++ (head_code id stamp (length coded) ++ coded) ++ reply → new_ends ≡ ends ++ stop ∷ []
    → stop ≡ length new_bytes → IsAdded rows (row_view id stamp words reply) new_bytes new_ends
row-put rows id stamp words coded reply bytes ends new_bytes new_ends stop are head lie small put ended here =
    let row = row_view id stamp words reply in
    let fits : RowFits row = record { head = head; words = lie.fit; size = omega (arith, ap length lie.coded) } in
    let code : new_bytes ≡ bytes ++ row_code row = put ∙ rw (row_code-is row, ← lie.coded) (simp append_assoc) in
    let all = AreRows-put rows row bytes ends new_bytes new_ends stop are fits code ended here in
    let both = AreRows-seen (rows ++ row ∷ []) new_bytes new_ends all in record { seen = both.0; kept = both.1 }
