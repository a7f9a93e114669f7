-- What was executed, as one thread on one map does it.
use Rattle.std.specs.Prelude.{List, [], ◌∷◌, Option, Some, None}
use Rattle.tasks.specs.Starved.{starved_in}
use Rattle.execution_order.specs.Entries.{Row, rows_by_stamp}
pub use Rattle.execution_order.specs.Rows.{IsOneThread}
use Rattle.journal.specs.declared.step.Step.{Step}
use Rattle.placement.specs.Layout.{Layout, IsTable}
use Rattle.resp.specs.Content.{Content}
use Rattle.world.specs.Steps.{opening, Leads}
use Rattle.world.specs.World.{World, Ended}

-- ---- the rows of a world

abbrev pub with_row : Ended → Option Content → List Row → List Row
with_row e None rows = rows
with_row e (Some reply) rows =
    record {
      entry = record { id = e.id; stamp = e.stamp; groups = e.groups; task = e.task; starved = starved_in e.task reply };
      reply = reply;
    } ∷ rows

-- the executed requests with their replies and the numbers of their members that starved, in the order of execution; those that
-- starved as a whole are left out
abbrev pub rows_of : List Ended → List Row
rows_of [] = []
rows_of (e ∷ es) = with_row e e.reply (rows_of es)

-- ---- the laws

-- For every list of steps: the contents, and the reply to each executed request, are those of one thread that runs
-- the executed requests on one map, sorted by their final stamps.
abbrev pub Headline : Type 0
Headline = (t : Layout) (steps : List Step) (w : World) → IsTable t → Leads t opening steps w →
    IsOneThread w.contents (rows_by_stamp (rows_of w.ended))

-- so are they in the order of execution
abbrev pub HoldsInOrderOfExecution : Type 0
HoldsInOrderOfExecution = (t : Layout) (steps : List Step) (w : World) → Leads t opening steps w →
    IsOneThread w.contents (rows_of w.ended)
