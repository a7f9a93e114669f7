-- Room for a layer's requests.
use Rattle.std.specs.Prelude.{◌≡◌, ℕ, ◌≤◌, List, [], length, None, Some, slice_get, vec_capacity}
use Rattle.std.proofs.Math.ListN.{replicate}
use Rattle.std.specs.Global.{Vec}
use Rattle.std.specs.List.{AllZip, concat}
use Rattle.keyspace.specs.Map.{Map}
use Rattle.layer_planner.specs.Parts.{units_in}
use Rattle.layer_planner.specs.Units.{AreUnitsOf, groups_each}
use Rattle.layer_planner.specs.declared.job.Job.{Job}
use Rattle.shard_exec.specs.DealtRooms.{FitsDealt}
use Rattle.shard_exec.specs.declared.layer_room.LayerRoom.{LayerRoom}
use Rattle.shard_exec.specs.declared.layer_room.RunRoom.{RunRoom}
use Rattle.shard_exec.specs.declared.layer_room.RunRoom.TheVariants.{InRow, Dealt}
use Rattle.shard_workers.specs.declared.workers.Room.{Room}

-- there is room for the shards of the request, where it isn't run over the shard of its one group where that stands
abbrev pub FitsAlone : Job → Vec (ℕ × Map) → Type 0
FitsAlone job span = (length job.groups ≡ 1 → ⊥) → (span.items ≡ []) × (length job.groups ≤ vec_capacity span)

-- so of the request at a place
abbrev pub FitsAt : List Job → ℕ → Vec (ℕ × Map) → Type 0
FitsAt jobs place span = (j : Job) → slice_get jobs place ≡ Some j → FitsAlone j span

-- these are the units of the layer, and there is room for them
abbrev pub FitsRuns : List Job → RunRoom → Type 0
FitsRuns jobs (InRow part spans) = AreUnitsOf (groups_each jobs) part × AllZip (FitsAt jobs) (concat part) spans.items
FitsRuns jobs (Dealt plan dealt) = AreUnitsOf (groups_each jobs) (units_in plan.items) × FitsDealt (groups_each jobs) plan.items dealt

-- there are no more loads than workers
abbrev pub AreFew : ℕ → RunRoom → Type 0
AreFew workers (InRow part spans) = Unit {0}
AreFew workers (Dealt plan dealt) = length plan.items ≤ workers

-- the workers have the room that they need
abbrev pub HasRoomForWorkers : (Room → ℕ → Type 0) → RunRoom → Type 0
HasRoomForWorkers has_room (InRow part spans) = Unit {0}
HasRoomForWorkers has_room (Dealt plan dealt) = has_room dealt.room (length plan.items)

pub record FitsLayer (jobs : List Job) (room : LayerRoom) : Type 0 where
  pub no_slots : room.slots.items ≡ []
  pub slots : length jobs ≤ vec_capacity room.slots
  pub rans : room.rans.items ≡ replicate (length jobs) None
  pub none_done : room.done.items ≡ []
  pub done : length jobs ≤ vec_capacity room.done
  pub runs : FitsRuns jobs room.runs
