-- Room for a layer that is dealt to loads, and the units that are made in it.
use Rattle.std.specs.Prelude.{◌≡◌, ℕ, ◌≤◌, ◌<◌, true, List, [], ◌∷◌, ◌++◌, Option, length, slice_index_or, vec_capacity}
use Rattle.std.specs.FinMap.{empty}
use Rattle.std.specs.List.{AllZip, AllByRecursion}
use Rattle.groups.specs.GroupSet.{has}
use Rattle.keyspace.specs.Map.{Map}
use Rattle.layer_planner.specs.Units.{groups_at}
use Rattle.layer_planner.specs.declared.job.Job.{Job}
use Rattle.shard_exec.specs.Dealing.{left_at}
use Rattle.shard_exec.specs.Layers.{TookJobs}
use Rattle.shard_exec.specs.declared.dealt_room.UnitRoom.{UnitRoom}
use Rattle.shard_exec.specs.declared.dealt_room.LoadRoom.{LoadRoom}
use Rattle.shard_exec.specs.declared.dealt_room.DealtRoom.{DealtRoom}
use Rattle.shards.specs.Rows.{taken_out, emptied}
use Rattle.shard_workers.specs.declared.work.Work.{Work}

-- the places of a unit: some, of a layer of so many
abbrev pub AreInLayer : ℕ → List ℕ → Type 0
AreInLayer count unit = (0 < length unit) × AllByRecursion (λ i. i < count) unit

-- nothing is in it, and there is room for the requests at these places, and for the shards of the groups that it is for
pub record HasRoomFor (unit : List ℕ) (room : UnitRoom) : Type 0 where
  pub no_jobs : room.jobs.items ≡ []
  pub jobs : length unit ≤ vec_capacity room.jobs
  pub none_run : room.rans.items ≡ []
  pub rans : length unit ≤ vec_capacity room.rans
  pub no_shards : room.span.items ≡ []
  pub span : length room.groups ≤ vec_capacity room.span

-- so of each unit of a part, and there is room for these units
pub record HaveRoomFor (part : List (List ℕ)) (room : LoadRoom) : Type 0 where
  pub units : AllZip HasRoomFor part room.units.items
  pub no_works : room.works.items ≡ []
  pub works : length part ≤ vec_capacity room.works
  pub none_run : room.rans.items ≡ []
  pub rans : length part ≤ vec_capacity room.rans

-- it is for the groups of the unit's requests
abbrev pub IsForGroups : List (List ℕ) → List ℕ → UnitRoom → Type 0
IsForGroups sets unit room = room.groups ≡ groups_at sets (slice_index_or unit 0 0)

pub record FitsLoad (sets : List (List ℕ)) (part : List (List ℕ)) (for_it : LoadRoom) : Type 0 where
  pub room : HaveRoomFor part for_it
  pub groups : AllZip (IsForGroups sets) part for_it.units.items

pub record FitsDealt (sets : List (List ℕ)) (plan : List (List (List ℕ))) (d : DealtRoom) : Type 0 where
  pub rooms : AllZip (FitsLoad sets) plan d.rooms.items
  pub no_loads : d.loads.items ≡ []
  pub loads : length plan ≤ vec_capacity d.loads

-- the groups that it is for are shards of a row of so many
abbrev pub IsInRow : ℕ → UnitRoom → Type 0
IsInRow shards room = (g : ℕ) → has room.groups g ≡ true → g < shards

abbrev pub all_rooms : List LoadRoom → List UnitRoom
all_rooms [] = []
all_rooms (r ∷ rs) = r.units.items ++ all_rooms rs

-- these units were made, one after another, of the requests at their places and of the shards of their groups, and this is
-- left of the row
abbrev pub MadeWorks : List (Option Job) → List Map → List (List ℕ) → List UnitRoom → List Work → List Map → Type 0
MadeWorks slots row [] [] [] left = left ≡ row
MadeWorks slots row (u ∷ us) (m ∷ ms) (w ∷ ws) left =
    TookJobs slots u w.jobs.items × (w.shards.items ≡ taken_out empty row m.groups)
    × MadeWorks (left_at slots u) (emptied empty row m.groups) us ms ws left
MadeWorks slots row _ _ _ left = ⊥
