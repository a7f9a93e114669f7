-- The head of some texts, and the line of its length.
use Rattle.std.specs.List.{flat_map}
use Rattle.std.specs.Fmt.{decimal}
use Rattle.std.proofs.Common.{◌≡◌, ℕ, ◌+◌, ◌-◌, ◌*◌, ◌^◌, ◌<◌, ◌≤◌, ◌==◌, Bool, true, false, cond, min, List, [], ◌∷◌, ◌++◌, length, take, drop, get_or}
use Rattle.std.proofs.Common.{Option, Some, None, ap, sym, ◌∙◌, arith, append_assoc, length-append, ne_eqb}
use Rattle.std.proofs.lemmas.List.{drop-drop, drop_min, drop_more, take_more}
use Rattle.std.proofs.lemmas.List.Folds.{length-flat_map-take}
use Rattle.resp.specs.Bulks.{bulk_text, bulk_at, bytes_at, length_on}
use Rattle.resp.proofs.Bulks.{bulk_at-text, line_at, line_end, small_of}

-- a number that is read is no less than its first digits say
at_least : (n : ℕ) (bs : List ℕ) (m : ℕ) (behind : List ℕ) → length_on n bs ≡ (Some m, behind) → n ≤ m
unfolding length_on
at_least n [] m behind is = let number : None ≡ Some m = ap (λ p. p.0) is in cc
at_least n (b ∷ bs) m behind is = by_tests (b == 13) (b == 45) (at_least (n * 10 + (b - 48)) bs m behind) is
  where
    by_tests : (ends minus : Bool) → (length_on (n * 10 + (b - 48)) bs ≡ (Some m, behind) → n * 10 + (b - 48) ≤ m)
        → cond ends (Some n, drop 1 bs) (cond minus (None, drop 3 bs) (length_on (n * 10 + (b - 48)) bs)) ≡ (Some m, behind) → n ≤ m
    by_tests true minus rest is' = let number : Some n ≡ Some m = ap (λ p. p.0) is' in let same : n ≡ m = cc in omega arith
    by_tests false true rest is' = let number : None ≡ Some m = ap (λ p. p.0) is' in cc
    by_tests false false rest is' = omega (arith, rest is')

-- one digit more
digit_more : (n b : ℕ) (bs : List ℕ) (m : ℕ) (behind : List ℕ) → (b == 13) ≡ false → length_on n (b ∷ bs) ≡ (Some m, behind)
    → (length_on (n * 10 + (b - 48)) bs ≡ (Some m, behind)) × (n * 10 + (b - 48) ≤ m)
unfolding length_on
digit_more n b bs m behind goes is = by_tests (b == 13) (b == 45) goes is
  where
    by_tests : (ends minus : Bool) → ends ≡ false
        → cond ends (Some n, drop 1 bs) (cond minus (None, drop 3 bs) (length_on (n * 10 + (b - 48)) bs)) ≡ (Some m, behind)
        → (length_on (n * 10 + (b - 48)) bs ≡ (Some m, behind)) × (n * 10 + (b - 48) ≤ m)
    by_tests true minus goes' is' = cc
    by_tests false true goes' is' = let number : None ≡ Some m = ap (λ p. p.0) is' in cc
    by_tests false false goes' is' = (is', at_least (n * 10 + (b - 48)) bs m behind is')

-- what is left of a line, one digit on
pub line_more : (line : List ℕ) (size i d m : ℕ) (behind : List ℕ) → i < length line → (get_or line i d ≡ 13 → ⊥)
    → length_on size (drop i line) ≡ length_on 0 line → length_on 0 line ≡ (Some m, behind)
    → (length_on (size * 10 + (get_or line i d - 48)) (drop (i + 1) line) ≡ length_on 0 line) × (size * 10 + (get_or line i d - 48) ≤ m)
line_more line size i d m behind within goes before whole =
    let b = get_or line i d in
    let here : drop i line ≡ b ∷ drop (i + 1) line = drop_more line i d within in
    let more = digit_more size b (drop (i + 1) line) m behind (ne_eqb b 13 goes) (ap (length_on size) (sym here) ∙ before ∙ whole) in
    (more.0 ∙ sym whole, more.1)

-- what is left of it at its end
pub line_done : (line : List ℕ) (size i d : ℕ) → i < length line → get_or line i d ≡ 13
    → length_on size (drop i line) ≡ length_on 0 line → length_on 0 line ≡ (Some size, drop (min (i + 2) (length line)) line)
line_done line size i d within ends before =
    let here : drop i line ≡ 13 ∷ drop (i + 1) line = drop_more line i d within ∙ ap (λ x. x ∷ drop (i + 1) line) ends in
    let left : drop 1 (drop (i + 1) line) ≡ drop (min (i + 2) (length line)) line =
    drop-drop 1 (i + 1) line ∙ ap (λ n. drop n line) {x = i + 1 + 1} {y = i + 2} (omega arith) ∙ sym (drop_min (i + 2) line) in
    sym before ∙ ap (length_on size) here ∙ line_end size (drop (i + 1) line) ∙ ap (λ rest. (Some size, rest)) left

-- the head of some texts is a null, or a line that says a length, so many bytes, and their line's end
pub head_line : (texts : List ℕ) (item : Option (List ℕ)) (behind : List ℕ) (d : ℕ) → texts ≡ bulk_text item ++ behind
    → length texts < 2 ^ 64 → (get_or texts 1 d ≡ 45 → ⊥)
    → (n : ℕ) × (rest : List ℕ) × (n < 2 ^ 64) × (length_on 0 (drop 1 texts) ≡ (Some n, rest)) × (n + 2 ≤ length rest)
head_line texts None behind d is fits goes = absurd (goes (ap (λ t. get_or t 1 d) is))
head_line texts (Some bytes) behind d is fits goes =
    let rest = bytes ++ 13 ∷ 10 ∷ behind in
    let small = small_of bytes (omega (arith, ap length is, length-append (bulk_text (Some bytes)) behind)) in
    let line : drop 1 texts ≡ decimal (length bytes) ++ 13 ∷ 10 ∷ rest = ap (drop 1) is ∙ simp append_assoc in (
      length bytes,
      rest,
      small,
      ap (length_on 0) line ∙ line_at bytes rest small,
      omega (arith, length-append bytes (13 ∷ 10 ∷ behind)),
    )

head_two : (texts : List ℕ) (item : Option (List ℕ)) (behind : List ℕ) → texts ≡ bulk_text item ++ behind → 1 < length texts
head_two texts None behind is = omega (arith, ap length is)
head_two texts (Some bytes) behind is =
    let rest = 13 ∷ 10 ∷ (bytes ++ 13 ∷ 10 ∷ behind) in
    let whole : texts ≡ 36 ∷ (decimal (length bytes) ++ rest) = is ∙ simp append_assoc in
    omega (arith, ap length whole, length-append (decimal (length bytes)) rest)

-- a minus is that of a null
pub null_read : (texts : List ℕ) (item : Option (List ℕ)) (behind : List ℕ) (d : ℕ) → texts ≡ bulk_text item ++ behind
    → get_or texts 1 d ≡ 45 → bulk_at texts ≡ (None, drop 5 texts)
unfolding bulk_at length_on
null_read texts item behind d is minus =
    let here : drop 1 texts ≡ 45 ∷ drop 2 texts =
    drop_more texts 1 d (head_two texts item behind is) ∙ ap (λ x. x ∷ drop 2 texts) minus in
    ap (λ t. bytes_at (length_on 0 t)) here ∙ ap (λ rest. (None, rest)) (drop-drop 3 2 texts)

-- what is read of a line that says a length
pub line_read : (line : List ℕ) (size m : ℕ) (rest behind : List ℕ) → (Some size, rest) ≡ length_on 0 line
    → length_on 0 line ≡ (Some m, behind) → m + 2 ≤ length behind → size + 2 ≤ length rest
line_read line size m rest behind read says long =
    let same : ◌≡◌ {A = Option ℕ × List ℕ} (Some size, rest) (Some m, behind) = read ∙ says in
    let number : Some size ≡ Some m = ap (λ p. p.0) same in
    let left : rest ≡ behind = ap (λ p. p.1) same in
    let equal : size ≡ m = cc in
    omega (arith, equal, ap length left, long)

-- one more is read
pub first_more : (items : List (Option (List ℕ))) (i : ℕ) (texts : List ℕ) (item : Option (List ℕ)) (behind : List ℕ) → i < length items
    → length (flat_map bulk_text items) < 2 ^ 64 → texts ≡ flat_map bulk_text (drop i items) → (item, behind) ≡ bulk_at texts
    → (take (i + 1) items ≡ take i items ++ item ∷ []) × (behind ≡ flat_map bulk_text (drop (i + 1) items))
first_more items i texts item behind within fits left read =
    let x = get_or items i None in
    let rest = flat_map bulk_text (drop (i + 1) items) in
    let here : texts ≡ bulk_text x ++ rest = left ∙ ap (flat_map bulk_text) (drop_more items i None within) in
    let short : length (bulk_text x) < 2 ^ 64 = omega (arith, fits, length-flat_map-take bulk_text items i None within) in
    let both : (item, behind) ≡ (x, rest) = read ∙ ap bulk_at here ∙ bulk_at-text x rest short in
    (take_more items i None within ∙ ap (λ y. take i items ++ y ∷ []) (sym (ap (λ p. p.0) both)), ap (λ p. p.1) both)
