use Rattle.std.proofs.Common.{◌+◌, ◌≤◌, length, ◌++◌, vec_capacity}
use Rattle.std.specs.List.{AllZip}
use Rattle.shard_workers.specs.Loads.{HasRunLoad}
use Rattle.shard_crew.proofs.crew.join_all.Given as goal

-- what the rest gives, behind what was given so far, is what all threads give
abbrev pub invariant-loop-child : goal.invariant-loop-child
invariant-loop-child g l =
    ((rs : _)
    → AllZip (λ h r. HasRunLoad h.promise.table.value h.promise.skip.value.now h.promise.load.value r) l.child-iterator.rest.items rs
    → AllZip (λ h r. HasRunLoad h.promise.table.value h.promise.skip.value.now h.promise.load.value r) l.fn.children.items
    (l.results.items ++ rs))
    × (length l.results.items + length l.child-iterator.rest.items ≤ vec_capacity l.results)
    × (vec_capacity l.fn.results ≤ vec_capacity l.results)
