-- Layers as a store has run them, one behind another, and the law that each reply is what one thread gets there.
use Rattle.std.specs.Prelude.{◌≡◌, List, flat_map}
use Rattle.tasks.specs.Starved.{starved_in}
use Rattle.execution_order.specs.Entries.{Row, entries_of, InOrder, AreAddressed}
use Rattle.execution_order.specs.Rows.{IsOneThread}
use Rattle.groups.specs.Order.{In}
use Rattle.groups.specs.declared.skip_id.SkipId.{SkipId}
use Rattle.keyspace.specs.Map.{Map}
use Rattle.placement.specs.Layout.{Layout}

-- a layer that was run: its executed requests with their replies, in the order of execution, and the names of what starved
pub record RanLayer : Type 0 where
  pub rows : List Row
  pub starved : List SkipId

-- the rows of these layers, and the names of what starved of them, one behind another
abbrev pub all_rows : List RanLayer → List Row
all_rows layers = flat_map (λ l. l.rows) layers

abbrev pub all_starved : List RanLayer → List SkipId
all_starved layers = flat_map (λ l. l.starved) layers

-- Each executed request addresses the groups that the table gives its task, its reply tells which of its members starved, and
-- touching ones were executed in the order of their stamps. One thread on one map that begins empty gives each the reply of its
-- row.
pub record IsSerial (table : Layout) (layers : List RanLayer) : Type 0 where
  pub addressed : AreAddressed table (entries_of (all_rows layers))
  pub in_order : InOrder (entries_of (all_rows layers))
  pub told : (row : Row) → In row (all_rows layers) → row.entry.starved ≡ starved_in row.entry.task row.reply
  pub left : Map
  pub in_turn : IsOneThread left (all_rows layers)
