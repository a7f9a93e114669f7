use Rattle.std.proofs.Common.{take}
use Rattle.journal.specs.TraceText.{HasNoLf}
use Rattle.replay.proofs.beginning.next_line.Given as goal

-- there is none so far
abbrev pub invariant-loop-place : goal.invariant-loop-place
invariant-loop-place l = HasNoLf (take l.place l.text)
