use Rattle.std.proofs.Common.{◌≡◌, ◌+◌, ◌≤◌, length, ◌++◌, drop, vec_capacity}
use Rattle.shard_exec.specs.Dealing.{CanTake, left_at}
use Rattle.shard_exec.specs.Layers.{TookJobs}
use Rattle.shard_exec.proofs.taking.take_jobs.Given as goal

abbrev pub invariant-loop-place : goal.invariant-loop-place
invariant-loop-place l = record {
  took : (ts : _) → TookJobs l.slots.items (drop l.place-index l.places) ts
      → TookJobs l.fn.slots.items l.places (l.jobs.items ++ ts);
  there : CanTake l.slots.items (drop l.place-index l.places);
  left : left_at l.slots.items (drop l.place-index l.places) ≡ left_at l.fn.slots.items l.places;
  room : length l.jobs.items + length (drop l.place-index l.places) ≤ vec_capacity l.jobs;
}
