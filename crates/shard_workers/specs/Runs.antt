-- The requests of a unit that are run one after another over the same shards.
use Rattle.std.specs.Prelude.{◌≡◌, List, [], ◌∷◌}
use Rattle.std.specs.List.{AllByRecursion}
use Rattle.groups.specs.declared.skip_id.SkipId.{SkipId}
use Rattle.placement.specs.Layout.{Layout}
use Rattle.shards.specs.Joined.{Span}
pub use Rattle.shard_workers.specs.PlacedJobs.{outcome}
use Rattle.shard_workers.specs.PlacedJobs.{IsReadyFor, HasRunOver}
use Rattle.shard_workers.specs.declared.placed_job.PlacedJob.{PlacedJob}
use Rattle.shard_workers.specs.declared.placed_job.JobRan.{JobRan}
use Rattle.shard_workers.specs.declared.work.Work.{Work}
use Rattle.shard_workers.specs.declared.work.Ran.{Ran}

-- each request of the unit has its shards
abbrev pub IsReady : Layout → Work → Type 0
IsReady table w = AllByRecursion (λ t. IsReadyFor table t w.shards.items) w.jobs.items

-- each was run over what those before it left of the shards
abbrev pub HaveRunOver : Layout → List SkipId → List PlacedJob → Span → List JobRan → Span → Type 0
HaveRunOver table skip [] before [] after = after ≡ before
HaveRunOver table skip [] before (r ∷ rs) after = ⊥
HaveRunOver table skip (t ∷ ts) before [] after = ⊥
HaveRunOver table skip (t ∷ ts) before (r ∷ rs) after =
    (mid : Span) × HasRunOver table skip t before r mid × HaveRunOver table skip ts mid rs after

-- the unit was run, and this is what came of it
abbrev pub HasRun : Layout → List SkipId → Work → Ran → Type 0
HasRun table skip w r = HaveRunOver table skip w.jobs.items w.shards.items r.jobs.items r.shards.items
