-- What owns a list that no memory keeps, and what is known for good of one.
use Rattle.std.specs.Prelude.{ℕ, List, map}
use base.Fml.{Fml}
use base.Fraction.{full_share}
use base.Growing.{Order, prefixes, latest, at_least}
use base.Stored.{Gv, Coded}

-- the list is kept as its ghost values, in an algebra that names no type parameter
abbrev pub itself : Coded Gv
itself = record { code = λ g. g; inj = λ x y p. p }

abbrev pub lists : Order (List Gv)
lists = prefixes itself

-- all of the list of this name is this
unfoldable pub latest_owns : {E : Type 0} → (E → Gv) → ℕ → List E → Fml
latest_owns code name list = latest lists full_share name (map code list)

-- it begins so
unfoldable pub reached_owns : {E : Type 0} → (E → Gv) → ℕ → List E → Fml
reached_owns code name list = at_least lists name (map code list)
