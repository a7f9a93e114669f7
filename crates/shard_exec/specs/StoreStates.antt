-- The store as contracts see it.
use Rattle.std.specs.Prelude.{◌≡◌, Bool, List, length, Option, refl}
use Rattle.std.specs.Coded.{Coded, code_by, coded×, coded_list, coded_option, coded_bool, coded_ℕ}
use Rattle.std.specs.FinMap.{code}
use Rattle.keyspace.specs.Map.{Map}
use Rattle.placement.specs.contracts.table.Table as table
use Rattle.placement.specs.Layout.{Layout, IsTable}
use Rattle.shards.specs.Joined.{HasOwnKeys}
use Rattle.groups.specs.contracts.stamp.Stamp as stamp
use Rattle.groups.specs.declared.stamp.Stamp.{Stamp}
use Rattle.values.specs.contracts.Value as value

-- where keys lie, the map of each shard, its last stamp (none before the first), and whether a worker's start was
-- refused once
pub record StoreState : Type 0 where
  pub table : Layout
  pub maps : List Map
  pub lasts : List (Option Stamp)
  pub failed : Bool

-- what each store is: as many shards and last stamps as the table says, each shard with only its own keys
pub record IsStore (s : StoreState) : Type 0 where
  pub is_table : IsTable s.table
  pub shards : length s.maps ≡ s.table.shards
  pub stamps : length s.lasts ≡ s.table.shards
  pub own : HasOwnKeys s.table s.maps

-- a store's state is stored as the pairs of its fields
abbrev pub state_code : Coded StoreState
state_code =
    code_by ((Layout × List Map) × (List (Option Stamp) × Bool))
    (coded× (coded× table.the_row.coded (coded_list (code (coded_list coded_ℕ) value.the_row.coded)))
    (coded× (coded_list (coded_option stamp.the_row.coded)) coded_bool))
    (λ s. ((s.table, s.maps), (s.lasts, s.failed)))
    (λ p. record { table = p.0.0; maps = p.0.1; lasts = p.1.0; failed = p.1.1 })
    (λ _. refl)
