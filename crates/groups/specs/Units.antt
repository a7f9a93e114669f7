-- What may stand in one layer: those that address one group alone, with rising stamps, are a unit of that group; each
-- other one is a unit by itself; and no group is in two units.
use Rattle.std.specs.Prelude.{◌≡◌, ℕ, true, List, [], ◌∷◌}
use Rattle.groups.specs.GroupSet.{has}
use Rattle.groups.specs.Order.{In}
use Rattle.groups.specs.Stamp.{stamp_lt}
use Rattle.groups.specs.declared.stamp.Stamp.{Stamp}

-- The second, with these groups and that stamp, may stand behind the first: no group is in both, or it is the one group
-- of each, and the second has the later stamp.
abbrev pub MayFollow : List ℕ → Stamp → List ℕ → Stamp → Type 0
MayFollow groups stamp others later =
    (g : ℕ) → has groups g ≡ true → has others g ≡ true
    → (groups ≡ g ∷ []) × (others ≡ g ∷ []) × (stamp_lt stamp later ≡ true)

-- each may stand behind all before it
abbrev pub AreUnits : {X : Type 0} → (X → List ℕ) → (X → Stamp) → List X → Type 0
AreUnits groups stamp [] = Unit {0}
AreUnits groups stamp (x ∷ xs) =
    ((y : _) → In y xs → MayFollow (groups x) (stamp x) (groups y) (stamp y)) × AreUnits groups stamp xs
