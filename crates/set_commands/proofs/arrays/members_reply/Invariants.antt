use Rattle.std.proofs.Common.{◌≡◌, ◌++◌, Some, length, map}
use Rattle.set_commands.proofs.arrays.members_reply.Given as goal

-- the texts so far, and those of the members that are left
abbrev pub invariant-loop-member : goal.invariant-loop-member
invariant-loop-member l = l.texts ++ map Some l.members ≡ map Some l.set

abbrev pub decreases-loop-member : goal.decreases-loop-member
decreases-loop-member l = length l.members
