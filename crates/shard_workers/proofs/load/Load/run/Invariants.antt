use Rattle.std.proofs.Common.{◌+◌, ◌≤◌, length, ◌++◌, vec_capacity}
use Rattle.std.specs.List.{AllZip, AllByRecursion}
use Rattle.shard_workers.specs.Runs.{IsReady, HasRun}
use Rattle.shard_workers.proofs.load.Load.run.Given as goal

-- what the rest gives, behind what was given so far, is what all requests give
abbrev pub invariant-loop-work : goal.invariant-loop-work
invariant-loop-work g l =
    ((rs : _) → AllZip (HasRun l.table l.skip) l.work-iterator.rest.items rs
    → AllZip (HasRun l.table l.skip) l.fn.self.works.items (l.rans.items ++ rs))
    × (length l.rans.items + length l.work-iterator.rest.items ≤ vec_capacity l.rans)
    × AllByRecursion (IsReady l.table) l.work-iterator.rest.items
