use Rattle.std.proofs.Common.{◌+◌, ◌≤◌, length, ◌++◌, vec_capacity}
use Rattle.std.specs.List.{AllByRecursion}
use Rattle.shard_workers.specs.Runs.{HaveRunOver}
use Rattle.shard_workers.specs.PlacedJobs.{IsReadyFor}
use Rattle.shard_workers.proofs.work.Work.run.Given as goal

-- what the rest gives, behind what was given so far, is what all requests give
abbrev pub invariant-loop-placed : goal.invariant-loop-placed
invariant-loop-placed g l = record {
  so_far : (rs : _) (after : _) → HaveRunOver l.table l.skip l.placed-iterator.rest.items l.shards.items rs after
      → HaveRunOver l.table l.skip l.fn.self.jobs.items l.fn.self.shards.items (l.rans.items ++ rs) after;
  room : length l.rans.items + length l.placed-iterator.rest.items ≤ vec_capacity l.rans;
  ready : AllByRecursion (λ t. IsReadyFor l.table t l.shards.items) l.placed-iterator.rest.items;
}
