-- The heads of rows, how a row is found by them, and what is said of the row at a place.
use Rattle.std.specs.Prelude.{ℕ, zero, suc, ◌+◌, Bool, false, List, [], ◌∷◌, Result, Ok, Err, if◌then◌else◌, map}
use Rattle.std.specs.Str.{bytes_eq}
use Rattle.command_table.specs.declared.arity.Arity.{Arity}
use Rattle.command_table.specs.declared.refusal.Refusal.{Refusal}
use Rattle.command_table.specs.declared.refusal.Refusal.TheVariants as refusal
use Rattle.command_table.specs.declared.row_heads.RowHead.{RowHead}
use Rattle.command_table.specs.Arity.{admits}
use Rattle.command_table.specs.CommandRow.{CommandRow, Reading}
use Rattle.command_table.specs.Words.{Word}

-- the name of a row, and how many words it takes
abbrev pub Head : Type 0
Head = Word × Arity

abbrev pub heads_held : List RowHead → List Head
heads_held heads = map (λ h. (h.name.now, h.arity)) heads

abbrev pub heads_of : List CommandRow → List Head
heads_of rows = map (λ r. (r.name, r.arity)) rows

-- the place of the row of this name, where it takes so many words, as these heads are counted from a place on
abbrev pub place_from : ℕ → List Head → Word → ℕ → Result ℕ Refusal
place_from place [] name words = Err refusal.Unknown
place_from place (h ∷ hs) name words =
    if bytes_eq name h.0 then (if admits h.1 words then Ok place else Err (refusal.Arity h.0)) else place_from (place + 1) hs name words

-- the row at this place takes so many words
abbrev pub admits_at : List CommandRow → ℕ → ℕ → Bool
admits_at [] place words = false
admits_at (r ∷ rs) zero words = admits r.arity words
admits_at (r ∷ rs) (suc place) words = admits_at rs place words

-- what the row at this place says of the words after the name
abbrev pub reading_at : List CommandRow → ℕ → List Word → Reading
reading_at [] place words = Err refusal.Unknown
reading_at (r ∷ rs) zero words = r.reading words
reading_at (r ∷ rs) (suc place) words = reading_at rs place words
