use Rattle.std.proofs.Common.{length}
use Rattle.replay.proofs.Beginnings.{AreRead}
use Rattle.replay.proofs.beginning.lines_of.Given as goal

-- the lines so far
abbrev pub invariant-loop-line : goal.invariant-loop-line
invariant-loop-line l = AreRead l.text l.rest l.lines l.has_end

abbrev pub decreases-loop-line : goal.decreases-loop-line
decreases-loop-line l = length l.rest
