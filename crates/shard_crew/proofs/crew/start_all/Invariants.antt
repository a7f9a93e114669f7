use Rattle.std.proofs.Common.{◌+◌, ◌≤◌, length, ◌++◌, vec_capacity}
use Rattle.std.specs.List.{AllZip, AllByRecursion}
use Rattle.shard_crew.specs.Promises.{IsToRun}
use Rattle.shard_workers.specs.Loads.{IsReadyLoad}
use Rattle.shard_crew.proofs.crew.start_all.Given as goal

-- handles of the rest, behind those so far, are handles of all loads
abbrev pub invariant-loop-load : goal.invariant-loop-load
invariant-loop-load g l =
    ((hs : _) → AllZip (λ p h. IsToRun l.table l.skip p h.promise) l.load-iterator.rest.items hs
    → AllZip (λ p h. IsToRun l.table l.skip p h.promise) l.fn.loads.items (l.children.items ++ hs))
    × (length l.children.items + length l.load-iterator.rest.items ≤ vec_capacity l.children)
    × AllByRecursion (IsReadyLoad l.table) l.load-iterator.rest.items
