-- A layer that was handed out, brought to a store.
use Rattle.std.specs.Prelude.{◌≡◌, ◌≢◌, Bool, List, []}
use Rattle.cluster.specs.Sealed.{TakenView, RanView}
use Rattle.layer_planner.specs.declared.job.Job.{Job}
use Rattle.serial_store.specs.Runs.{HasRun, IsUnrun}
use Rattle.serial_store.specs.Stores.{SerialState}
use Rattle.serial_store.specs.declared.fault.Unrun.{Unrun}
use Rattle.serial_store.specs.declared.fault.Unrun.TheVariants as unrun
use Rattle.shard_exec.specs.declared.done.ExecFault.TheVariants as exec

-- its turn had come, and it was run, with none left out; what came of it goes on with its number and its steps
pub record RunsTaken (old : SerialState) (taken : TakenView) (ran : RanView) (new : SerialState) : Type 0 where
  pub run : HasRun old taken.number [] taken.layer ran.done new
  pub number : ran.number ≡ taken.number
  pub told : ran.told ≡ taken.told
  pub all : ran.ran ≡ new.runs

-- why it wasn't: there was no memory
abbrev pub LacksMemory : Bool → SerialState → TakenView → SerialState → Type 0
LacksMemory may_refuse old taken new = IsUnrun may_refuse old taken.number taken.layer (unrun.Refused (exec.Memory taken.layer)) new

-- or it is refused for good: its turn is another, it is stale, or a worker could not be started, now or earlier
pub record IsRefusedForGood (may_refuse : Bool) (old : SerialState) (taken : TakenView) (new : SerialState) : Type 0 where
  pub why : Unrun
  pub lasts : (given : List Job) → why ≢ unrun.Refused (exec.Memory given)
  pub refused : IsUnrun may_refuse old taken.number taken.layer why new
