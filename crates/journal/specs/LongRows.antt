-- Rows of which the long parts lie beside the packed ones.
use Rattle.std.specs.Global.{Vec}
use Rattle.std.specs.Prelude.{ℕ, ◌+◌, ◌*◌, ◌≤◌, List, [], ◌∷◌, ◌==◌, if◌then◌else◌, Option, Some, None, vec_len, vec_capacity}
use Rattle.journal.specs.Views.{RowView, PackedView}
use Rattle.journal.specs.declared.long_rows.LongRow.{LongRow}
use Rattle.journal.specs.declared.rows.TheConstants.{GREATEST_ROW}

-- what lies beside the packed rows for the row at this place, if anything does
abbrev pub long_at : List LongRow → ℕ → Option LongRow
long_at [] place = None
long_at (long ∷ longs) place = if long.place == place then Some long else long_at longs place

-- the text, or the packed reply where there is none
abbrev pub text_or : List ℕ → List ℕ → List ℕ
text_or [] reply = reply
text_or (b ∷ bs) reply = b ∷ bs

-- a packed row with its long parts
abbrev pub whole : RowView → Option LongRow → RowView
whole row None = row
whole row (Some long) = record row { words = long.words; reply = text_or long.text.items row.reply }

-- the packed rows from this place on, with theirs
abbrev pub all_whole : List LongRow → ℕ → List RowView → List RowView
all_whole longs place [] = []
all_whole longs place (row ∷ rows) = whole row (long_at longs place) ∷ all_whole longs (place + 1) rows

-- their places ascend from the lowest one, and are below `count`
abbrev pub Ascend : List LongRow → ℕ → ℕ → Type 0
Ascend [] low count = low ≤ count
Ascend (long ∷ longs) low count = (low ≤ long.place) × Ascend longs (long.place + 1) count

-- the reply's text is packed where there is none beside it
abbrev pub packed_reply : List ℕ → List ℕ → List ℕ
packed_reply [] reply = reply
packed_reply (b ∷ bs) reply = []

-- there is room for so many rows: for as many ends and long parts, and for the bytes of each
pub record HasRoom (packed : PackedView) (longs : Vec LongRow) (count : ℕ) : Type 0 where
  pub bytes : count * GREATEST_ROW ≤ packed.bytes
  pub ends : count ≤ packed.ends
  pub beside : vec_len longs + count ≤ vec_capacity longs
