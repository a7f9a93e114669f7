use Rattle.std.proofs.Common.{◌≡◌, ℕ, ◌<◌, length, drop, Some, slice_get}
use Rattle.std.specs.List.{AllByRecursion}
use Rattle.layer_planner.specs.declared.job.Job.{Job}
use Rattle.shard_exec.specs.Dealing.{CanTake}
use Rattle.shard_exec.specs.RowRuns.{FitAt, HaveRunAt}
use Rattle.shards.specs.Joined.{HasOwnKeys}
use Rattle.shard_exec.proofs.row_run.run_places.Given as goal

-- what is run at the rest of the places, behind what was, is what is run at all
abbrev pub invariant-loop-place : goal.invariant-loop-place
invariant-loop-place g l = record {
  ran : (given : _) (left : _)
      → HaveRunAt l.table l.skip l.slots.items l.row.items (drop l.place-index l.places) l.rans.items given left
      → HaveRunAt l.table l.skip l.fn.slots.items l.fn.row.items l.places l.fn.rans.items given left;
  there : CanTake l.slots.items (drop l.place-index l.places);
  among : (i : ℕ) (j : Job) → slice_get l.slots.items i ≡ Some (Some j) → slice_get l.fn.slots.items i ≡ Some (Some j);
  room : FitAt l.fn.slots.items (drop l.place-index l.places) l.spans.rest.items;
  inside : AllByRecursion (λ i. i < length l.fn.rans.items) (drop l.place-index l.places);
  own : HasOwnKeys l.table l.row.items;
  len : length l.row.items ≡ length l.fn.row.items;
  len_rans : length l.rans.items ≡ length l.fn.rans.items;
}
