-- What is kept, and what is handed on, of the requests of a layer that was run.
use Rattle.std.specs.Prelude.{List, [], ◌∷◌, map, Option, Some, None, option_map}
use Rattle.journal.specs.Views.{RowView, row_view}
use Rattle.layer_results.specs.declared.done.DoneRow.{DoneRow}
use Rattle.resp.specs.Content.{content}
use Rattle.resp.specs.Text.{text}
use Rattle.resp.specs.declared.answered.Answered.{Answered}
use Rattle.shard_exec.specs.declared.done.Ended.{Ended}

-- a row of each that was executed; one that starved as a whole has none
abbrev pub with_row : Ended → Option Answered → List RowView → List RowView
with_row e None rows = rows
with_row e (Some answered) rows = row_view e.id e.stamp e.words (text (content answered.reply)) ∷ rows

abbrev pub rows_of : List Ended → List RowView
rows_of [] = []
rows_of (e ∷ es) = with_row e e.reply (rows_of es)

-- what is handed on of each, in the order of the layer: there is no reply where it starved as a whole
abbrev pub done_of : Ended → DoneRow
done_of e = record { id = e.id; stamp = e.stamp; words = e.words; reply = option_map (λ answered. answered.reply) e.reply }

abbrev pub results_of : List Ended → List DoneRow
results_of es = map done_of es
