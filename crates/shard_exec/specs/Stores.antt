-- The store as contracts see it, and what `run_layer` does to it.
use Rattle.std.specs.Prelude.{◌≡◌, Bool, true, false, List, [], Option, None, ◌⊎◌}
use Rattle.std.specs.FinMap.{empty}
use Rattle.std.proofs.Math.ListN.{replicate}
use Rattle.layer_planner.specs.declared.job.Job.{Job}
use Rattle.placement.specs.Layout.{Layout}
use Rattle.groups.specs.declared.skip_id.SkipId.{SkipId}
use Rattle.groups.specs.declared.stamp.Stamp.{Stamp}
use Rattle.shard_exec.specs.declared.done.Ended.{Ended}
use Rattle.shard_exec.specs.declared.done.ExecFault.{ExecFault}
use Rattle.shard_exec.specs.declared.done.ExecFault.TheVariants.{Stale, Memory, Failed, Foreign}
use Rattle.shard_exec.specs.Layers.{IsDone}
use Rattle.shard_exec.specs.Stamps.{AreFresh, raised}
use Rattle.shard_exec.specs.StoreStates.{StoreState}

-- no keys, no last stamps
abbrev pub empty_store : Layout → StoreState
empty_store table = record { table = table; maps = replicate table.shards empty; lasts = replicate table.shards None; failed = false }

-- the layer was run: its stamps were above the last ones of its shards, and they are the last ones now
pub record HasRunLayer (old : StoreState) (skip : List SkipId) (layer : List Job) (ended : List Ended) (new : StoreState) : Type 0 where
  pub lives : old.failed ≡ false
  pub fresh : AreFresh old.lasts layer
  pub done : IsDone old.table old.maps skip layer ended new.maps
  pub lasts : new.lasts ≡ raised old.lasts layer
  pub table : new.table ≡ old.table
  pub goes_on : new.failed ≡ false

-- Why it was not: the first that applies. Stale and Memory hand it back with nothing changed, and an empty layer needs
-- no memory. Failed comes where the store has failed before, and then changes nothing, or where a start was refused.
-- Foreign never comes: that no layer is, is for the caller to see to.
abbrev pub HasFailed : Bool → StoreState → List Job → ExecFault → StoreState → Type 0
HasFailed may_refuse old layer (Stale back) new = (old.failed ≡ false) × (AreFresh old.lasts layer → ⊥) × (back ≡ layer) × (new ≡ old)
HasFailed may_refuse old layer (Memory back) new =
    (old.failed ≡ false) × AreFresh old.lasts layer × (layer ≡ [] → ⊥) × (back ≡ layer) × (new ≡ old)
HasFailed may_refuse old layer Failed new =
    ((old.failed ≡ true) × (new ≡ old)) ⊎
    ((may_refuse ≡ true) × (old.failed ≡ false) × AreFresh old.lasts layer × (new.failed ≡ true) × (new.table ≡ old.table))
HasFailed may_refuse old layer (Foreign back) new = ⊥

-- why a layer is not even begun: the store has failed before, or a stamp is not above the last one of a shard
abbrev pub IsNotAdmitted : Bool → List (Option Stamp) → List Job → ExecFault → Type 0
IsNotAdmitted failed lasts layer (Stale back) = (failed ≡ false) × (AreFresh lasts layer → ⊥) × (back ≡ layer)
IsNotAdmitted failed lasts layer (Memory back) = ⊥
IsNotAdmitted failed lasts layer Failed = failed ≡ true
IsNotAdmitted failed lasts layer (Foreign back) = ⊥
