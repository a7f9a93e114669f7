use Rattle.std.proofs.Common.{◌≡◌, ◌-◌, ◌++◌, List, ℕ}
use Rattle.packing.specs.Codes.{many}
use Rattle.journal.specs.Codes.{step_at}
use Rattle.journal.specs.TraceText.{lines_text}
use Rattle.journal.proofs.trace.Steps.put_lines.Given as goal

-- what was put, and the lines of the steps that are left, are all lines
abbrev pub invariant-loop : goal.invariant-loop
invariant-loop l =
    ((more : List ℕ) × (l.out.items ≡ l.fn.out.items ++ more))
    × (l.out.items ++ lines_text (many step_at (l.left - l.counter) l.rest).0
    ≡ l.fn.out.items ++ lines_text l.fn.self)
