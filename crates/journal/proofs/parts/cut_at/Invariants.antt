use Rattle.std.proofs.Common.{◌≡◌, ◌++◌, take, drop}
use Rattle.journal.specs.TraceText.{cut_at}
use Rattle.journal.proofs.parts.cut_at.Given as goal

-- the byte isn't among those so far
abbrev pub invariant-loop-i : goal.invariant-loop-i
invariant-loop-i l =
    ((cut_at l.byte l.bytes).0 ≡ take l.i l.bytes ++ (cut_at l.byte (drop l.i l.bytes)).0)
    × ((cut_at l.byte l.bytes).1 ≡ (cut_at l.byte (drop l.i l.bytes)).1)
