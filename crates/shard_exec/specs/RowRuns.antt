-- Requests that are run in the row, one after another, each over the shards of its groups.
use Rattle.std.specs.Prelude.{◌≡◌, ℕ, false, List, [], ◌∷◌, Option, Some, None, slice_get, slice_set}
use Rattle.std.specs.Global.{Vec}
use Rattle.std.specs.List.{AllZip}
use Rattle.groups.specs.GroupSet.{has}
use Rattle.groups.specs.declared.skip_id.SkipId.{SkipId}
use Rattle.keyspace.specs.Map.{Map}
use Rattle.layer_planner.specs.declared.job.Job.{Job}
use Rattle.placement.specs.Layout.{Layout}
use Rattle.tasks.specs.Tasks.{task_groups}
use Rattle.shard_exec.specs.Layers.{IsJobAt}
use Rattle.shard_exec.specs.Rooms.{FitsAlone}
use Rattle.shards.specs.Joined.{map_of_shard, span_at}
use Rattle.shard_workers.specs.PlacedJobs.{HasRunOver}
use Rattle.shard_workers.specs.declared.placed_job.PlacedJob.{PlacedJob}
use Rattle.shard_workers.specs.declared.placed_job.JobRan.{JobRan}

-- the request was run over the shards of its groups, and the others are as they were
pub record HasRunInRow (table : Layout) (skip : List SkipId) (t : PlacedJob) (old : List Map) (r : JobRan) (new : List Map)
    : Type 0 where
  pub over : HasRunOver table skip t (span_at old t.job.groups) r (span_at new t.job.groups)
  pub others : (shard : ℕ) → has t.job.groups shard ≡ false → map_of_shard new shard ≡ map_of_shard old shard

-- the requests in the slots address the groups that the table gives their batches
abbrev pub AddressAt : Layout → List (Option Job) → Type 0
AddressAt table slots = (place : ℕ) (j : Job) → slice_get slots place ≡ Some (Some j) → j.groups ≡ task_groups table j.asked.batch

-- there is room for the requests at these places
abbrev pub FitAt : List (Option Job) → List ℕ → List (Vec (ℕ × Map)) → Type 0
FitAt slots places spans = AllZip (λ place span. (j : Job) → slice_get slots place ≡ Some (Some j) → FitsAlone j span) places spans

-- the requests at these places were run one after another, each in the row that those before it left, and what became of
-- each was put in its place
abbrev pub HaveRunAt : Layout → List SkipId → List (Option Job) → List Map → List ℕ → List (Option JobRan)
    → List (Option JobRan) → List Map → Type 0
HaveRunAt table skip slots row [] rans given left = (given ≡ rans) × (left ≡ row)
HaveRunAt table skip slots row (i ∷ is) rans given left =
    (t : PlacedJob) × (r : JobRan) × (mid : List Map) × IsJobAt slots i t × HasRunInRow table skip t row r mid
    × HaveRunAt table skip (slice_set slots i None) mid is (slice_set rans i (Some r)) given left
