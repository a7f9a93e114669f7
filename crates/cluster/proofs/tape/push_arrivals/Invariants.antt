use Rattle.std.proofs.Common.{◌≡◌, ◌+◌, ◌*◌, ◌≤◌, ◌++◌}
use Rattle.cluster.specs.Passing.{arrivals}
use Rattle.cluster.specs.declared.tape.TheConstants.{SIZE_PASSED}
use Rattle.cluster.proofs.tape.push_arrivals.Given as goal

-- so many are pushed, and there is room for the others
abbrev pub invariant-loop : goal.invariant-loop
invariant-loop l =
    (l.trace.max ≡ l.fn.trace.max) × (l.trace.steps ≡ l.fn.trace.steps ++ arrivals l.counter) × (l.left + 2 * l.counter ≡ SIZE_PASSED)
    × (l.left + l.kept ≤ l.trace.room)
