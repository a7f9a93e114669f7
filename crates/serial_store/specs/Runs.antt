-- A layer that was run, or why it wasn't.
use Rattle.std.specs.Prelude.{◌≡◌, ◌≢◌, ◌+◌, ◌^◌, ℕ, Bool, true, false, List, [], ◌∷◌, ◌++◌, length, ◌⊎◌}
use Rattle.std.specs.List.{AllZip}
use Rattle.back.specs.Rows.{results_of}
use Rattle.groups.specs.declared.skip_id.SkipId.{SkipId}
use Rattle.layer_planner.specs.Layers.{MayStand}
use Rattle.layer_planner.specs.declared.job.Job.{Job}
use Rattle.layer_results.specs.declared.done.DoneRow.{DoneRow}
use Rattle.serial_store.specs.Stores.{SerialState}
use Rattle.serial_store.specs.declared.fault.Unrun.{Unrun}
use Rattle.serial_store.specs.declared.fault.Unrun.TheVariants.{OutOfTurn, Refused}
use Rattle.shard_exec.specs.Layers.{AddressTheirGroups}
use Rattle.shard_exec.specs.Stamps.{AreFresh}
use Rattle.shard_exec.specs.StoreStates.{StoreState}
use Rattle.shard_exec.specs.Stores.{HasRunLayer}
use Rattle.shard_exec.specs.declared.done.Ended.{Ended}
use Rattle.shard_exec.specs.declared.done.ExecFault.{ExecFault}
use Rattle.shard_exec.specs.declared.done.ExecFault.TheVariants.{Stale, Memory, Failed, Foreign}

-- ---- the store alone

-- it ran the layer, which is one that may stand, and whose requests address the groups of their tasks, and this came of it
pub record RunsLayer (old : StoreState) (skip : List SkipId) (layer : List Job) (came : List DoneRow) (new : StoreState) : Type 0 where
  pub ended : List Ended
  pub may_stand : MayStand layer
  pub addressed : AddressTheirGroups old.table layer
  pub ran : HasRunLayer old skip layer ended new
  pub done : came ≡ results_of ended

-- a worker's start was refused now
pub record Fails (may_refuse : Bool) (old : StoreState) (layer : List Job) (new : StoreState) : Type 0 where
  pub may : may_refuse ≡ true
  pub lived : old.failed ≡ false
  pub fresh : AreFresh old.lasts layer
  pub failed : new.failed ≡ true
  pub table : new.table ≡ old.table

-- Why it doesn't run a layer whose requests address their groups: the first that applies of Failed, Stale and Memory. All but Failed
-- hand the layer back with nothing changed, and an empty layer needs no memory. Failed comes where the store has failed before, and
-- then changes nothing, or where a start was refused.
abbrev pub RefusesLayer : Bool → StoreState → List Job → ExecFault → StoreState → Type 0
RefusesLayer may_refuse old layer Failed new = ((old.failed ≡ true) × (new ≡ old)) ⊎ Fails may_refuse old layer new
RefusesLayer may_refuse old layer (Foreign back) new = ⊥
RefusesLayer may_refuse old layer (Stale back) new =
    (old.failed ≡ false) × (AreFresh old.lasts layer → ⊥) × (back ≡ layer) × (new ≡ old)
RefusesLayer may_refuse old layer (Memory back) new =
    (old.failed ≡ false) × AreFresh old.lasts layer × (layer ≡ [] → ⊥) × (back ≡ layer) × (new ≡ old)

-- ---- the store and its history

-- the row is that of the job, with its words
pub record IsOfJob (j : Job) (row : DoneRow) : Type 0 where
  pub id : row.id ≡ j.id
  pub stamp : row.stamp ≡ j.stamp
  pub words : row.words ≡ j.asked.words

-- The layer's turn had come, and the store ran it. What came of it has a row for each request, in the layer's order, and stands
-- behind what came of the layers before.
pub record HasRun (old : SerialState) (number : ℕ) (skip : List SkipId) (layer : List Job) (done : List DoneRow) (new : SerialState)
    : Type 0 where
  pub turn : number ≡ length old.runs
  pub ran : RunsLayer old.store skip layer done new.store
  pub rows : AllZip IsOfJob layer done
  pub runs : new.runs ≡ old.runs ++ done ∷ []

-- Its number is not that of the layers so far, or is the greatest: its turn hasn't come, and it is handed back with nothing changed.
-- Or the store doesn't run it, and what came of the layers before stays.
abbrev pub IsUnrun : Bool → SerialState → ℕ → List Job → Unrun → SerialState → Type 0
IsUnrun may_refuse old number layer (OutOfTurn back) new =
    ((number ≢ length old.runs) ⊎ (number + 1 ≡ 2 ^ 64)) × (back ≡ layer) × (new ≡ old)
IsUnrun may_refuse old number layer (Refused fault) new =
    (number ≡ length old.runs) × RefusesLayer may_refuse old.store layer fault new.store × (new.runs ≡ old.runs)
