-- What came of layers, as layers that a store has run, and the law that each reply is what one thread gets there.
use Rattle.std.specs.Prelude.{List, [], ◌∷◌, map, Option, Some, None, Result, Ok, Err}
use Rattle.tasks.specs.Starved.{starved_in}
use Rattle.command_table.specs.declared.refusal.Refusal.{Refusal}
use Rattle.execution_order.specs.Entries.{Row}
use Rattle.execution_order.specs.Serial.{RanLayer, IsSerial}
use Rattle.layer_results.specs.Results.{names_of}
use Rattle.layer_results.specs.declared.done.DoneRow.{DoneRow}
use Rattle.placement.specs.Layout.{Layout}
use Rattle.resp.specs.Content.{content}
use Rattle.resp.specs.declared.reply.Reply.{Reply}
use Rattle.tasks.specs.Tasks.{Task, task_reading, task_groups}

-- the row of a request that was executed, whose words say this task; one that starved as a whole has none
abbrev pub with_row : Layout → DoneRow → Option Reply → Result Task Refusal → List Row → List Row
with_row t r None read rows = rows
with_row t r (Some reply) (Err refusal) rows = rows
with_row t r (Some reply) (Ok task) rows =
    record {
      entry = record { id = r.id; stamp = r.stamp; groups = task_groups t task; task = task; starved = starved_in task (content reply) };
      reply = content reply;
    } ∷ rows

abbrev pub rows_in : Layout → List DoneRow → List Row
rows_in t [] = []
rows_in t (r ∷ rows) = with_row t r r.reply (task_reading r.words) (rows_in t rows)

-- the layer of which this came
abbrev pub layer_of : Layout → List DoneRow → RanLayer
layer_of t done = record { rows = rows_in t done; starved = names_of done }

-- the law of all that came of a store's layers: each reply is what one thread gets there
abbrev pub AreSerial : Layout → List (List DoneRow) → Type 0
AreSerial t dones = IsSerial t (map (layer_of t) dones)
