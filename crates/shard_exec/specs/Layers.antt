-- A layer that is run over the store: what it needs, and what comes of it.
use Rattle.std.specs.Prelude.{◌≡◌, ℕ, ◌<◌, true, false, List, [], ◌∷◌, length, map, Option, Some, None, IsSome, slice_get, slice_set}
use Rattle.std.specs.FinMap.{retain_keys}
use Rattle.std.specs.List.{AllZip, AllByRecursion}
use Rattle.groups.specs.GroupSet.{has}
use Rattle.groups.specs.Skips.{names_whole, parts_of}
use Rattle.groups.specs.declared.skip_id.SkipId.{SkipId}
use Rattle.keyspace.specs.Map.{Map}
use Rattle.layer_planner.specs.declared.job.Job.{Job}
use Rattle.placement.specs.Layout.{Layout, shard_of}
use Rattle.resp.specs.Content.{Content}
use Rattle.tasks.specs.Tasks.{Task, task_groups, deed_effect, deed_of, task_takes_memory, MembersStarveRightly}
use Rattle.shard_exec.specs.Dealing.{filled}
use Rattle.shard_exec.specs.declared.done.Ended.{Ended}
use Rattle.shards.specs.Joined.{joined, HasOwnKeys}
use Rattle.shards.specs.Layer.{LayerRan, AnsweredInTurn}
use Rattle.shard_workers.specs.PlacedJobs.{outcome}
use Rattle.shard_workers.specs.declared.placed_job.PlacedJob.{PlacedJob}
use Rattle.shard_workers.specs.declared.placed_job.JobRan.{JobRan}

abbrev pub tasks_of : List Job → List Task
tasks_of jobs = map (λ j. j.asked.batch) jobs

-- each request addresses the groups that the table gives its batch
abbrev pub AddressTheirGroups : Layout → List Job → Type 0
AddressTheirGroups table jobs = AllByRecursion (λ j. j.groups ≡ task_groups table j.asked.batch) jobs

-- what each request was answered; nothing where it starved
abbrev pub outcomes_of_ended : List Ended → List (Option Content)
outcomes_of_ended done = map (λ e. outcome e.reply) done

-- what the shards of these groups have of a map
abbrev pub on_groups : Layout → List ℕ → Map → Map
on_groups table groups m = retain_keys m (λ key. has groups (shard_of table key))

-- A request that starved was to be skipped, or its batch, on what the shards of its groups have of the map that it met, takes
-- memory as a whole; and one that was to be skipped starved. Of the members of one that didn't starve those did that were to be
-- skipped, and others only where they take memory on what they met.
pub record MayStarve (table : Layout) (met : Map) (skip : List SkipId) (j : Job) (e : Ended) : Type 0 where
  pub skipped : names_whole skip j.id ≡ true → outcome e.reply ≡ None
  pub starved : names_whole skip j.id ≡ false → outcome e.reply ≡ None
      → task_takes_memory j.asked.batch (on_groups table j.groups met)
  pub members : (reply : Content) → outcome e.reply ≡ Some reply
      → MembersStarveRightly (parts_of skip j.id) j.asked.batch (on_groups table j.groups met) reply

-- what a task leaves of the map that it meets, by what it answers: where it starves, the map as it is
abbrev pub left_by : Task → Map → Option Content → Map
left_by task met None = met
left_by task met (Some reply) = (deed_effect (deed_of task reply) met).0

-- So of each request of a layer: it meets the map that those before it left. What this has on its shards is what they had
-- before the layer, as the earlier requests of its unit left it, since no other one addresses them.
abbrev pub MayStarveInTurn : Layout → Map → List SkipId → List Job → List Ended → Type 0
MayStarveInTurn table met skip [] [] = Unit {0}
MayStarveInTurn table met skip [] (e ∷ es) = ⊥
MayStarveInTurn table met skip (j ∷ js) [] = ⊥
MayStarveInTurn table met skip (j ∷ js) (e ∷ es) =
    MayStarve table met skip j e × MayStarveInTurn table (left_by j.asked.batch met (outcome e.reply)) skip js es

-- the rows tell of these requests, in their order, each with its words
abbrev pub IsOf : Job → Ended → Type 0
IsOf j e = (e.id ≡ j.id) × (e.stamp ≡ j.stamp) × (e.words ≡ j.asked.words)

-- The requests of a layer were run over the shards, unit by unit, each over those of its groups, which comes to the same as
-- one after another on the joined map, in the order of the layer, the starved ones skipped. Other shards are as they were,
-- and each shard has only its own keys.
pub record IsDone (table : Layout) (old : List Map) (skip : List SkipId) (layer : List Job) (done : List Ended) (new : List Map)
    : Type 0 where
  pub told : AllZip IsOf layer done
  pub in_turn : AnsweredInTurn (joined old) (tasks_of layer) (outcomes_of_ended done) (joined new)
  pub shards : LayerRan table old (tasks_of layer) (outcomes_of_ended done) new
  pub own : HasOwnKeys table new
  pub starved : MayStarveInTurn table (joined old) skip layer done

-- ---- on the way

-- the groups of the request are shards of the row
abbrev pub IsInside : ℕ → Job → Type 0
IsInside shards j = (g : ℕ) → has j.groups g ≡ true → g < shards

-- this is the request in a slot, with its place
pub record IsJobAt (slots : List (Option Job)) (at : ℕ) (t : PlacedJob) : Type 0 where
  pub there : slice_get slots at ≡ Some (Some t.job)
  pub place : t.place ≡ at

-- these were taken from these places, one after another
abbrev pub TookJobs : List (Option Job) → List ℕ → List PlacedJob → Type 0
TookJobs slots [] [] = Unit {0}
TookJobs slots [] (t ∷ ts) = ⊥
TookJobs slots (i ∷ is) [] = ⊥
TookJobs slots (i ∷ is) (t ∷ ts) = IsJobAt slots i t × TookJobs (slice_set slots i None) is ts

abbrev pub ended_of : JobRan → Ended
ended_of r = record { id = r.id; stamp = r.stamp; words = r.words; reply = r.reply }

-- it has the request's groups and stamp
abbrev pub HasItsGroups : Job → JobRan → Type 0
HasItsGroups j r = (r.groups ≡ j.groups) × (r.stamp ≡ j.stamp)

-- in each place stands what became of its request, and so the layer is done
pub record HaveGiven (table : Layout) (old : List Map) (skip : List SkipId) (layer : List Job) (slots : List (Option JobRan))
    (new : List Map) : Type 0 where
  pub full : AllByRecursion IsSome slots
  pub as_many : length slots ≡ length layer
  pub groups : AllZip HasItsGroups layer (filled slots)
  pub done : IsDone table old skip layer (map ended_of (filled slots)) new
