-- A layer that was run over the store and its rows, or why it wasn't.
use Rattle.std.specs.Prelude.{◌≡◌, Bool, true, false, List, [], ◌++◌, ◌⊎◌}
use Rattle.back.specs.Backs.{BackState}
use Rattle.back.specs.Rows.{rows_of, results_of}
use Rattle.groups.specs.declared.skip_id.SkipId.{SkipId}
use Rattle.layer_planner.specs.Layers.{MayStand}
use Rattle.layer_planner.specs.declared.job.Job.{Job}
use Rattle.shard_exec.specs.Layers.{AddressTheirGroups}
use Rattle.shard_exec.specs.Stamps.{AreFresh}
use Rattle.shard_exec.specs.StoreStates.{StoreState}
use Rattle.shard_exec.specs.Stores.{HasRunLayer}
use Rattle.shard_exec.specs.declared.done.Ended.{Ended}
use Rattle.shard_exec.specs.declared.done.ExecFault.{ExecFault}
use Rattle.shard_exec.specs.declared.done.ExecFault.TheVariants.{Stale, Memory, Failed, Foreign}

-- The store ran the layer, which is one that may stand, and whose requests address the groups of their tasks. Behind the
-- rows stand those of the requests that were executed, and what came of the layer is what came last.
pub record HasRun (old : BackState) (skip : List SkipId) (layer : List Job) (new : BackState) : Type 0 where
  pub ended : List Ended
  pub may_stand : MayStand layer
  pub addressed : AddressTheirGroups old.store.table layer
  pub store : HasRunLayer old.store skip layer ended new.store
  pub rows : new.rows ≡ old.rows ++ rows_of ended
  pub last : new.last ≡ results_of ended

-- a worker's start was refused now: the rows stay, and what came of the last layer too
pub record Fails (may_refuse : Bool) (old : BackState) (layer : List Job) (new : BackState) : Type 0 where
  pub may : may_refuse ≡ true
  pub lived : old.store.failed ≡ false
  pub addressed : AddressTheirGroups old.store.table layer
  pub fresh : AreFresh old.store.lasts layer
  pub failed : new.store.failed ≡ true
  pub table : new.store.table ≡ old.store.table
  pub rows : new.rows ≡ old.rows
  pub last : new.last ≡ old.last

-- Why it was not run: the first that applies of Failed, Foreign, Stale and Memory. All but Failed hand it back with nothing
-- changed, and an empty layer needs no memory. Failed comes where the store has failed before, and then changes nothing, or
-- where a start was refused.
abbrev pub IsRefused : Bool → BackState → List Job → ExecFault → BackState → Type 0
IsRefused may_refuse old layer Failed new = ((old.store.failed ≡ true) × (new ≡ old)) ⊎ Fails may_refuse old layer new
IsRefused may_refuse old layer (Foreign back) new =
    (old.store.failed ≡ false) × (AddressTheirGroups old.store.table layer → ⊥) × (back ≡ layer) × (new ≡ old)
IsRefused may_refuse old layer (Stale back) new =
    (old.store.failed ≡ false) × AddressTheirGroups old.store.table layer × (AreFresh old.store.lasts layer → ⊥)
    × (back ≡ layer) × (new ≡ old)
IsRefused may_refuse old layer (Memory back) new =
    (old.store.failed ≡ false) × AddressTheirGroups old.store.table layer × AreFresh old.store.lasts layer
    × (layer ≡ [] → ⊥) × (back ≡ layer) × (new ≡ old)

-- why a layer is not even begun: the store has failed before, or a request addresses other groups
abbrev pub IsNotAdmitted : StoreState → List Job → ExecFault → Type 0
IsNotAdmitted store layer Failed = store.failed ≡ true
IsNotAdmitted store layer (Foreign back) =
    (store.failed ≡ false) × (AddressTheirGroups store.table layer → ⊥) × (back ≡ layer)
IsNotAdmitted store layer (Stale back) = ⊥
IsNotAdmitted store layer (Memory back) = ⊥

-- why a layer isn't run for whose rows there is no memory: it is stale, or fresh
abbrev pub WhyUnrun : StoreState → List Job → ExecFault → Type 0
WhyUnrun store layer (Stale back) = (AreFresh store.lasts layer → ⊥) × (back ≡ layer)
WhyUnrun store layer (Memory back) = AreFresh store.lasts layer × (back ≡ layer)
WhyUnrun store layer Failed = ⊥
WhyUnrun store layer (Foreign back) = ⊥
