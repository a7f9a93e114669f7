-- The store with its rows, as contracts see it, and the law that they keep.
use Rattle.std.specs.Prelude.{◌≡◌, ℕ, true, false, List, []}
use Rattle.std.specs.List.{AllZip}
use Rattle.execution_order.specs.Entries.{Entry, Row, entries_of, rows_by_stamp, InOrder, AreAddressed}
use Rattle.execution_order.specs.Rows.{IsRow, IsOneThread}
use Rattle.groups.specs.GroupSet.{has}
use Rattle.groups.specs.Order.{In}
use Rattle.journal.specs.Views.{RowView}
use Rattle.keyspace.specs.Map.{Map}
use Rattle.layer_results.specs.declared.done.DoneRow.{DoneRow}
use Rattle.placement.specs.Layout.{Layout}
use Rattle.shard_exec.specs.Reached.{HasReached}
use Rattle.shard_exec.specs.Stamps.{last_of}
use Rattle.shard_exec.specs.StoreStates.{StoreState}
use Rattle.shard_exec.specs.Stores.{empty_store}
use Rattle.shards.specs.Joined.{joined}

-- the store, the rows of all that was executed, and what came of the last layer
pub record BackState : Type 0 where
  pub store : StoreState
  pub rows : List RowView
  pub last : List DoneRow

abbrev pub back_of : StoreState → List RowView → List DoneRow → BackState
back_of store rows last = record { store = store; rows = rows; last = last }

abbrev pub new_back : Layout → BackState
new_back table = back_of (empty_store table) [] []

-- The rows are kept of executed requests, each of which addresses the groups that the table gives its task, and touching
-- ones were executed in the order of their stamps. One thread on one map gives each of them the reply of its row, which tells which of
-- its members starved, in the
-- order of execution and in that of their stamps; and it leaves what the shards hold together, unless a worker's start was
-- refused.
pub record IsLawful (store : StoreState) (rows : List RowView) : Type 0 where
  pub executed : List Row
  pub kept : AllZip IsRow executed rows
  pub addressed : AreAddressed store.table (entries_of executed)
  pub in_order : InOrder (entries_of executed)
  pub left : Map
  pub in_turn : IsOneThread left executed
  pub by_stamp : IsOneThread left (rows_by_stamp executed)
  pub contents : store.failed ≡ false → joined store.maps ≡ left

-- each shard's last stamp has reached those of the requests that addressed it
abbrev pub HaveReached : StoreState → List Entry → Type 0
HaveReached store es = (e : Entry) (g : ℕ) → In e es → has e.groups g ≡ true → HasReached (last_of store.lasts g) e.stamp

-- what each back is
pub record IsBack (store : StoreState) (rows : List RowView) : Type 0 where
  pub lawful : IsLawful store rows
  pub reached : store.failed ≡ false → HaveReached store (entries_of lawful.executed)
