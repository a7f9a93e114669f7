use Rattle.std.proofs.Common.{◌≡◌, take}
use Rattle.tasks.proofs.Joining.{of_members}
use Rattle.tasks.proofs.addressing.groups_of_all.Given as goal

-- the groups are those of the members so far
abbrev pub invariant-loop-member : goal.invariant-loop-member
invariant-loop-member l = l.groups ≡ of_members l.fn.table (take l.member-index l.fn.members)
