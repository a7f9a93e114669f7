-- The range rule: the places from a start to an end.
use Rattle.std.specs.Prelude.{ℕ, suc, ◌&&◌, Bool, List, [], ◌∷◌, length, ℤ, pos, ◌+ℤ◌, int_lt, int_le, if◌then◌else◌}

-- the place that a start or an end says of something of this length: below 0 it counts from the end
abbrev pub place : ℤ → ℕ → ℤ
place at len = if int_lt at (pos 0) then at +ℤ pos len else at

-- whether a place lies from the start to the end
abbrev pub is_in_range : ℤ → ℤ → ℕ → ℕ → Bool
is_in_range start end len p = int_le (place start len) (pos p) && int_le (pos p) (place end len)

-- the items at the places that are wanted
abbrev pub items_where : {A : Type 0} → (ℕ → Bool) → List A → List A
items_where wanted [] = []
items_where wanted (x ∷ xs) =
    if wanted 0 then x ∷ items_where (λ p. wanted (suc p)) xs else items_where (λ p. wanted (suc p)) xs

-- the items from the start to the end
abbrev pub range_items : {A : Type 0} → ℤ → ℤ → List A → List A
range_items start end items = items_where (is_in_range start end (length items)) items
