-- A set of groups in 64 bits: the group g is there where bit g is 1.
use Rattle.std.specs.Prelude.{ℕ, ◌+◌, ◌^◌, ◌==◌, List, [], ◌∷◌}
use Rattle.std.specs.Int.{bit_at}
use Rattle.groups.specs.GroupSet.{chosen}

-- the places of the ones among the lowest 64 bits
abbrev pub ones_of : ℕ → List ℕ
ones_of bits = chosen (λ g. bit_at bits g == 1) 0 64

-- the number with ones at these places
unfoldable pub number_of : List ℕ → ℕ
number_of [] = 0
number_of (g ∷ gs) = 2 ^ g + number_of gs
