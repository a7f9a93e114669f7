-- What several threads know of what they wrote.
use Rattle.std.specs.Prelude.{◌≡◌, ◌⊎◌, List, [], ◌∷◌, ◌++◌}
use mathlib.Core.List.{IsPrefix}

-- the list is one of these, and both begin it
abbrev pub IsLonger : {E : Type 0} → List E → List E → List E → Type 0
IsLonger one other list = IsPrefix one list × IsPrefix other list × ((list ≡ one) ⊎ (list ≡ other))

-- the entry may stand behind whatever legal list there is
abbrev pub MayFollow : {E : Type 0} → (List E → Type 0) → E → Type 0
MayFollow {E} legal entry = (es : List E) → legal es → legal (es ++ entry ∷ [])

-- the list ends with the entry
abbrev pub EndsWith : {E : Type 0} → E → List E → Type 0
EndsWith {E} entry list = (before : List E) × (list ≡ before ++ entry ∷ [])

-- the list ends with the entry, which stands behind all that was seen
abbrev pub EndsBehind : {E : Type 0} → List E → E → List E → Type 0
EndsBehind {E} seen entry list = (before : List E) × IsPrefix seen before × (list ≡ before ++ entry ∷ [])
