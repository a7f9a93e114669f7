-- The store beside what came of its layers, as contracts see it.
use Rattle.std.specs.Prelude.{◌≡◌, false, List, [], map}
use Rattle.back.specs.Backs.{HaveReached}
use Rattle.execution_order.specs.Entries.{entries_of}
use Rattle.execution_order.specs.Serial.{all_rows}
use Rattle.layer_results.specs.declared.done.DoneRow.{DoneRow}
use Rattle.placement.specs.Layout.{Layout}
use Rattle.serial_store.specs.Serial.{layer_of, AreSerial}
use Rattle.shard_exec.specs.StoreStates.{StoreState}
use Rattle.shard_exec.specs.Stores.{empty_store}
use Rattle.shards.specs.Joined.{joined}

-- the store, and what came of each layer that it ran
pub record SerialState : Type 0 where
  pub store : StoreState
  pub runs : List (List DoneRow)

abbrev pub state_of : StoreState → List (List DoneRow) → SerialState
state_of store runs = record { store = store; runs = runs }

abbrev pub new_state : Layout → SerialState
new_state table = state_of (empty_store table) []

-- Keys lie by the table. One thread gives each executed request its reply, and leaves what the shards hold together, unless a
-- worker's start was refused.
pub record IsLawful (t : Layout) (store : StoreState) (runs : List (List DoneRow)) : Type 0 where
  pub table : store.table ≡ t
  pub serial : AreSerial t runs
  pub contents : store.failed ≡ false → joined store.maps ≡ serial.left

-- what each such store is: besides, each shard's last stamp has reached those of the requests that addressed it
pub record IsSerialStore (t : Layout) (store : StoreState) (runs : List (List DoneRow)) : Type 0 where
  pub lawful : IsLawful t store runs
  pub reached : store.failed ≡ false → HaveReached store (entries_of (all_rows (map (layer_of t) runs)))
