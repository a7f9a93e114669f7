-- Byte strings, two by two.
use Rattle.std.proofs.Common.{◌≡◌, ℕ, zero, suc, ◌+◌, ◌*◌, ◌≤◌, ◌<◌, ◌%◌, List, [], ◌∷◌, length, Some, slice_get, slice_index_or, refl, ap}
use Rattle.std.proofs.Common.{arith}
use native.Mathlib.Numerals.{unary_clauses}
use Rattle.std.specs.Global.{Vec}
use Rattle.texts.specs.Texts.{texts_of, pairs_of, firsts, by_turns}

-- half as many pairs as strings
pub length-pairs_of : (ts : List (Vec ℕ)) → (2 * length (pairs_of (texts_of ts)) ≤ length ts)
    × (length ts ≤ 2 * length (pairs_of (texts_of ts)) + 1)
length-pairs_of [] = (omega arith, omega arith)
length-pairs_of (a ∷ []) = (omega arith, omega arith)
length-pairs_of (a ∷ b ∷ ts) = let more = length-pairs_of ts in (omega (arith, more.0), omega (arith, more.1))

-- the first of a pair is the string at twice its place
pub first-pairs_of : (ts : List (Vec ℕ)) (i : ℕ) (t : Vec ℕ) → i < length (pairs_of (texts_of ts)) → t ≡ slice_index_or ts (2 * i) t
    → slice_get (firsts (pairs_of (texts_of ts))) i ≡ Some t.items
first-pairs_of [] i t h e = absurd (omega arith)
first-pairs_of (a ∷ []) i t h e = absurd (omega arith)
first-pairs_of (a ∷ b ∷ ts) zero t h e = cc
first-pairs_of (a ∷ b ∷ ts) (suc i) t h e = first-pairs_of ts i t (omega arith) (simp unary_clauses at e)

-- an even number of strings is that of their pairs
pub by_turns-pairs_of : (ts : List (Vec ℕ)) → length ts % 2 ≡ 0 → texts_of ts ≡ by_turns (pairs_of (texts_of ts))
by_turns-pairs_of [] even = refl
by_turns-pairs_of (a ∷ []) even = absurd (omega (arith, even))
by_turns-pairs_of (a ∷ b ∷ ts) even = ap (λ rest. a.items ∷ b.items ∷ rest) (by_turns-pairs_of ts (omega (arith, even)))
