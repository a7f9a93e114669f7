-- A part of a list that lies in two pieces.
use Rattle.std.proofs.Common.{◌≡◌, ℕ, ◌+◌, ◌-◌, ◌<◌, ◌≤◌, ◌⊎◌, inl, inr, min, true, false, leb, List, ◌++◌, length, take, drop, refl, sym}
use Rattle.std.proofs.Common.{ap, ◌∙◌, arith}
use Rattle.std.proofs.Math.Seq.{drop-append-add, take-append-add}
use Rattle.std.proofs.lemmas.Bool.Decides.{leb_tells}
use Rattle.std.proofs.lemmas.List.{append-nil, drop-append-le, length-drop, take-append-le, take_all}
use Rattle.std.specs.Prelude.{slice_range}

-- it ends in the first piece
ends_first : {A : Type 0} (xs ys : List A) (s e : ℕ) → s ≤ e → e ≤ length xs
    → slice_range (xs ++ ys) s e ≡ slice_range xs (min s (length xs)) (min e (length xs)) ++ slice_range ys (s - length xs) (e - length xs)
ends_first xs ys s e le ends =
    let start : min s (length xs) ≡ s = omega arith in
    let end : min e (length xs) ≡ e = omega arith in
    let none : e - length xs - (s - length xs) ≡ 0 = omega arith in
    ap (take (e - s)) (drop-append-le s xs ys (omega arith))
    ∙ take-append-le (e - s) (drop s xs) ys (omega (arith, length-drop s xs))
    ∙ rw (start, end, none) (sym (append-nil (take (e - s) (drop s xs))))

-- it begins in the second one
begins_second : {A : Type 0} (xs ys : List A) (s e : ℕ) → s ≤ e → length xs ≤ s
    → slice_range (xs ++ ys) s e ≡ slice_range xs (min s (length xs)) (min e (length xs)) ++ slice_range ys (s - length xs) (e - length xs)
begins_second xs ys s e le begins =
    let none : min e (length xs) - min s (length xs) ≡ 0 = omega arith in
    let many : e - length xs - (s - length xs) ≡ e - s = omega arith in
    ap (λ n. take (e - s) (drop n (xs ++ ys))) {x = s} {y = length xs + (s - length xs)} (omega arith)
    ∙ ap (take (e - s)) (drop-append-add xs ys (s - length xs)) ∙ rw (none, many) refl

-- it begins in the first one and ends in the second one
lies_in_both : {A : Type 0} (xs ys : List A) (s e : ℕ) → s < length xs → length xs < e
    → slice_range (xs ++ ys) s e ≡ slice_range xs (min s (length xs)) (min e (length xs)) ++ slice_range ys (s - length xs) (e - length xs)
lies_in_both xs ys s e begins ends =
    let start : min s (length xs) ≡ s = omega arith in
    let end : min e (length xs) ≡ length xs = omega arith in
    let at_its_start : s - length xs ≡ 0 = omega arith in
    let many : e - length xs - (s - length xs) ≡ e - length xs = omega arith in
    let long : e - s ≡ length (drop s xs) + (e - length xs) = omega (arith, length-drop s xs) in
    let all : take (length xs - s) (drop s xs) ≡ drop s xs = take_all (length xs - s) (drop s xs) (omega (arith, length-drop s xs)) in
    ap (take (e - s)) (drop-append-le s xs ys (omega arith)) ∙ ap (λ n. take n (drop s xs ++ ys)) long
    ∙ take-append-add (drop s xs) ys (e - length xs) ∙ rw (many, start, end, at_its_start, all) refl

pub slice_range-append : {A : Type 0} (xs ys : List A) (s e : ℕ) → s ≤ e
    → slice_range (xs ++ ys) s e ≡ slice_range xs (min s (length xs)) (min e (length xs)) ++ slice_range ys (s - length xs) (e - length xs)
slice_range-append xs ys s e le = by_ends (leb_tells e (length xs)) (leb_tells (length xs) s)
  where
    by_ends : ((leb e (length xs) ≡ true) × (e ≤ length xs)) ⊎ ((leb e (length xs) ≡ false) × (length xs < e))
        → ((leb (length xs) s ≡ true) × (length xs ≤ s)) ⊎ ((leb (length xs) s ≡ false) × (s < length xs))
        → slice_range (xs ++ ys) s e ≡ slice_range xs (min s (length xs)) (min e (length xs)) ++ slice_range ys (s - length xs) (e - length xs)
    by_ends (inl first) begins = ends_first xs ys s e le first.1
    by_ends (inr second) (inl begins) = begins_second xs ys s e le begins.1
    by_ends (inr second) (inr begins) = lies_in_both xs ys s e begins.1 second.1
