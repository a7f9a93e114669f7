use Rattle.std.proofs.Common.{List, ℕ, [], length}
use Rattle.journal.specs.TraceReading.{IsRead}
use Rattle.journal.proofs.reader.read_steps.Given as goal

-- what was read of a text is its first lines with the steps so far
abbrev pub invariant-loop-line : goal.invariant-loop-line
invariant-loop-line l = (whole : List ℕ) → IsRead whole l.fn.text l.fn.version l.fn.max []
    → IsRead whole l.rest l.fn.version l.trace.max l.trace.steps

abbrev pub decreases-loop-line : goal.decreases-loop-line
decreases-loop-line l = length l.rest
