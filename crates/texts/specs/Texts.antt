-- Byte strings, and lists of them, as contracts see them.
use Rattle.std.specs.Prelude.{ℕ, List, [], ◌∷◌, map}
use Rattle.std.specs.Global.{Vec}

-- a byte string: a key, a word of a request, a string value
abbrev pub Bytes : Type 0
Bytes = List ℕ

-- the bytes of each of these strings
abbrev pub texts_of : List (Vec ℕ) → List Bytes
texts_of texts = map (λ t. t.items) texts

-- the strings two by two; one that is left over counts for nothing
abbrev pub pairs_of : List Bytes → List (Bytes × Bytes)
pairs_of [] = []
pairs_of (first ∷ []) = []
pairs_of (first ∷ second ∷ rest) = (first, second) ∷ pairs_of rest

-- the first of each pair
abbrev pub firsts : List (Bytes × Bytes) → List Bytes
firsts pairs = map (λ p. p.0) pairs

-- the strings of these pairs, the first and the second of each by turns
abbrev pub by_turns : List (Bytes × Bytes) → List Bytes
by_turns [] = []
by_turns (pair ∷ pairs) = pair.0 ∷ pair.1 ∷ by_turns pairs
