-- Executed requests beside the rows that are kept of them, and beside one thread on one map.
use Rattle.std.specs.FinMap.{empty}
use Rattle.std.specs.Prelude.{◌≡◌, List, Ok}
use Rattle.execution_order.specs.Entries.{Row, deeds_of, entries_of, replies_of}
use Rattle.journal.specs.Views.{RowView}
use Rattle.keyspace.specs.Map.{Map}
use Rattle.resp.specs.Text.{text}
use Rattle.tasks.specs.Starved.{starved_in}
use Rattle.tasks.specs.Tasks.{task_reading, deeds_in_turn}

-- the row that is kept of an executed request: its id, its final stamp, words that say its task, and its reply's text; the reply
-- tells which of the task's members starved
pub record IsRow (executed : Row) (kept : RowView) : Type 0 where
  pub id : kept.id ≡ executed.entry.id
  pub stamp : kept.stamp ≡ executed.entry.stamp
  pub says : task_reading kept.words ≡ Ok executed.entry.task
  pub starved : executed.entry.starved ≡ starved_in executed.entry.task executed.reply
  pub reply : kept.reply ≡ text executed.reply

-- one thread that runs the requests' tasks, one after another on an empty map, leaves this map and gives each of them its reply;
-- of a task's members it leaves those out that starved
abbrev pub IsOneThread : Map → List Row → Type 0
IsOneThread contents rows = (contents, replies_of rows) ≡ deeds_in_turn empty (deeds_of (entries_of rows))
