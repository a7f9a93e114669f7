use Rattle.std.proofs.Common.{◌≡◌, ◌+◌, ◌≤◌, length, ◌++◌, map, Some, vec_capacity}
use Rattle.shard_exec.proofs.taking.in_slots.Given as goal

abbrev pub invariant-loop-job : goal.invariant-loop-job
invariant-loop-job l =
    (l.slots.items ++ map (λ j. Some j) l.job-iterator.rest.items ≡ map (λ j. Some j) l.fn.jobs.items)
    × (length l.slots.items + length l.job-iterator.rest.items ≤ vec_capacity l.slots)
