-- What came of a layer, as it goes from the store to whoever settles it.
use Rattle.std.specs.Prelude.{◌≡◌, ℕ, List, [], ◌∷◌, ◌++◌, length}
use Rattle.layer_results.specs.declared.done.DoneRow.{DoneRow}

-- what came of a layer, its number, and what came of all layers that the store has run by then
pub record RanView : Type 0 where
  pub done : List DoneRow
  pub number : ℕ
  pub runs : List (List DoneRow)

-- it stands last, behind as many as its number says
abbrev pub EndsIn : RanView → Type 0
EndsIn ran = (before : List (List DoneRow)) × (ran.runs ≡ before ++ ran.done ∷ []) × (ran.number ≡ length before)
