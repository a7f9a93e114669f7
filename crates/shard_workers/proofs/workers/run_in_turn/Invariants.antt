use Rattle.std.proofs.Common.{◌+◌, ◌≤◌, length, ◌++◌, vec_capacity}
use Rattle.std.specs.List.{AllZip, AllByRecursion}
use Rattle.shard_workers.specs.Loads.{IsReadyLoad, HasRunLoad}
use Rattle.shard_workers.proofs.workers.run_in_turn.Given as goal

-- what the rest gives, behind what was given so far, is what all loads give
abbrev pub invariant-loop-load : goal.invariant-loop-load
invariant-loop-load g l =
    ((rs : _) → AllZip (HasRunLoad l.table l.skip) l.load-iterator.rest.items rs
    → AllZip (HasRunLoad l.table l.skip) l.fn.loads.items (l.results.items ++ rs))
    × (length l.results.items + length l.load-iterator.rest.items ≤ vec_capacity l.results)
    × AllByRecursion (IsReadyLoad l.table) l.load-iterator.rest.items
