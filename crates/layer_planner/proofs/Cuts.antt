-- A list cut at ascending ends: its pieces, one more piece, and that the pieces are the list again.
use Rattle.std.proofs.Common.{◌≡◌, ℕ, zero, suc, ◌+◌, ◌-◌, ◌<◌, ◌≤◌, List, [], ◌∷◌, ◌++◌, length, take, drop, slice_index_or, refl, sym, ap}
use Rattle.std.proofs.Common.{◌∙◌, subst, arith}
use Rattle.std.specs.List.{concat}
use Rattle.std.proofs.lemmas.List.{take-append-drop, take-append-le, drop-append-le, drop-drop, length-append, length-drop}
use Rattle.std.proofs.Math.Seq.{take-length, drop-length, drop-append_seam}
use Rattle.layer_planner.specs.Parts.{cut, AreEnds, start_of}

pub length-cut : {X : Type 0} (start : ℕ) (xs : List X) (ends : List ℕ) → length (cut start xs ends) ≡ length ends
length-cut start xs [] = refl
length-cut start xs (end ∷ ends) = ap suc (length-cut end xs ends)

pub ends_within : (start : ℕ) (ends : List ℕ) (all : ℕ) → AreEnds start ends all → start ≤ all
ends_within start [] all e = omega (arith, e)
ends_within start (end ∷ ends) all e = let rest = ends_within end ends all e.1 in let here = e.0 in omega (arith, rest, here)

pub AreEnds-push : (start : ℕ) (ends : List ℕ) (all more : ℕ) → AreEnds start ends all → all ≤ more → AreEnds start (ends ++ more ∷ []) more
AreEnds-push start [] all more e h = (omega (arith, e, h), refl)
AreEnds-push start (end ∷ ends) all more e h = (e.0, AreEnds-push end ends all more e.1 h)

-- one more piece
pub cut-push : {X : Type 0} (start : ℕ) (xs ys : List X) (ends : List ℕ) → AreEnds start ends (length xs)
    → cut start (xs ++ ys) (ends ++ length (xs ++ ys) ∷ []) ≡ cut start xs ends ++ ys ∷ []
cut-push start xs ys [] e =
    let long = length-append xs ys in
    let count : length (xs ++ ys) - start ≡ length ys = omega (arith, long, e) in
    ap (λ l. l ∷ []) (ap (λ n. take n (drop start (xs ++ ys))) count
    ∙ ap (λ s. take (length ys) (drop s (xs ++ ys))) e ∙ ap (take (length ys)) (drop-append_seam xs ys) ∙ take-length ys)
cut-push start xs ys (end ∷ ends) e =
    let inside = ends_within end ends (length xs) e.1 in
    let up = e.0 in
    let from : start ≤ length xs = omega (arith, inside, up) in
    let dropped = length-drop start xs in
    ap (λ l. take (end - start) l ∷ cut end (xs ++ ys) (ends ++ length (xs ++ ys) ∷ [])) (drop-append-le start xs ys from)
    ∙ ap (λ l. l ∷ cut end (xs ++ ys) (ends ++ length (xs ++ ys) ∷ []))
    (take-append-le (end - start) (drop start xs) ys (omega (arith, dropped, inside, up)))
    ∙ ap (λ l. take (end - start) (drop start xs) ∷ l) (cut-push end xs ys ends e.1)

-- all pieces
pub concat-cut : (start : ℕ) (xs ends : List ℕ) → AreEnds start ends (length xs) → concat (cut start xs ends) ≡ drop start xs
concat-cut start xs [] e = sym (ap (λ n. drop n xs) e ∙ drop-length xs)
concat-cut start xs (end ∷ ends) e =
    let up = e.0 in
    let there : start + (end - start) ≡ end = omega (arith, up) in
    ap (λ l. take (end - start) (drop start xs) ++ l) (concat-cut end xs ends e.1
    ∙ sym (drop-drop (end - start) start xs ∙ ap (λ n. drop n xs) there))
    ∙ take-append-drop (end - start) (drop start xs)

-- where a piece begins, from some start on
from_start : ℕ → List ℕ → ℕ → ℕ
from_start start ends zero = start
from_start start ends (suc n) = slice_index_or ends n 0

at-cut : {X : Type 0} (start : ℕ) (xs : List X) (ends : List ℕ) (n : ℕ) → n < length ends
    → slice_index_or (cut start xs ends) n []
    ≡ take (slice_index_or ends n 0 - from_start start ends n) (drop (from_start start ends n) xs)
unfolding from_start
at-cut start xs [] n h = absurd (omega (arith, h))
at-cut start xs (end ∷ ends) zero h = refl
at-cut start xs (end ∷ ends) (suc zero) h = at-cut end xs ends zero (omega (arith, h))
at-cut start xs (end ∷ ends) (suc (suc n)) h = at-cut end xs ends (suc n) (omega (arith, h))

from-start : (ends : List ℕ) (n : ℕ) → from_start 0 ends n ≡ start_of ends n
unfolding from_start
from-start ends zero = refl
from-start ends (suc n) = refl

pub unit_is : {X : Type 0} (xs : List X) (ends : List ℕ) (n : ℕ) → n < length ends
    → slice_index_or (cut 0 xs ends) n [] ≡ take (slice_index_or ends n 0 - start_of ends n) (drop (start_of ends n) xs)
unit_is xs ends n h = at-cut 0 xs ends n h
    ∙ ap (λ s. take (slice_index_or ends n 0 - s) (drop s xs)) (from-start ends n)

pub record EndsAt (start : ℕ) (ends : List ℕ) (all n : ℕ) : Type 0 where
  pub up : start ≤ slice_index_or ends n 0
  pub inside : slice_index_or ends n 0 ≤ all

bounds : (start : ℕ) (ends : List ℕ) (all n : ℕ) → AreEnds start ends all → n < length ends → EndsAt (from_start start ends n) ends all n
unfolding from_start
bounds start [] all n e h = absurd (omega (arith, h))
bounds start (end ∷ ends) all zero e h = record { up = e.0; inside = ends_within end ends all e.1 }
bounds start (end ∷ ends) all (suc zero) e h = let b = bounds end ends all zero e.1
    (omega (arith, h)) in record { up = b.up; inside = b.inside }
bounds start (end ∷ ends) all (suc (suc n)) e h =
    let b = bounds end ends all (suc n) e.1 (omega (arith, h)) in record { up = b.up; inside = b.inside }

pub unit_within : (ends : List ℕ) (all n : ℕ) → AreEnds 0 ends all → n < length ends → EndsAt (start_of ends n) ends all n
unit_within ends all n e h = subst (λ s. EndsAt s ends all n) (from-start ends n) (bounds 0 ends all n e h)

pub there : {X : Type 0} (xs : List X) (ends : List ℕ) (pieces : List (List X)) (n : ℕ) → cut 0 xs ends ≡ pieces → n < length pieces
    → n < length ends
there xs ends pieces n e h =
    let long : length pieces ≡ length ends = ap (λ l. length l) (sym e) ∙ length-cut 0 xs ends in
    omega (arith, long, h)

-- the piece of a number, as a slice
pub record IsPiece {X : Type 0} (xs : List X) (pieces : List (List X)) (n start end : ℕ) : Type 0 where
  pub up : start ≤ end
  pub inside : end ≤ length xs
  pub is : take (end - start) (drop start xs) ≡ slice_index_or pieces n []

pub piece : {X : Type 0} (xs : List X) (ends : List ℕ) (pieces : List (List X)) (n start end : ℕ) → AreEnds 0 ends (length xs)
    → cut 0 xs ends ≡ pieces → n < length pieces → start ≡ start_of ends n → end ≡ slice_index_or ends n 0 → IsPiece xs pieces n start end
piece {X} xs ends pieces n start end e cuts h from to =
    let inside = there xs ends pieces n cuts h in
    let b = unit_within ends (length xs) n e inside in
    record {
      up = subst (λ s. s ≤ end) (sym from) (subst (λ t. start_of ends n ≤ t) (sym to) b.up);
      inside = subst (λ t. t ≤ length xs) (sym to) b.inside;
      is = ap (λ s. take (end - s) (drop s xs)) from ∙ ap (λ t. take (t - start_of ends n) (drop (start_of ends n) xs)) to
          ∙ sym (unit_is xs ends n inside) ∙ ap (λ (l : List (List X)). slice_index_or l n []) cuts;
    }
