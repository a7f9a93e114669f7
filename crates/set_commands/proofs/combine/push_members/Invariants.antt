use Rattle.std.proofs.Common.{◌≡◌, ◌++◌, length}
use Rattle.set_commands.specs.Lent.{lent_texts}
use Rattle.set_commands.proofs.combine.push_members.Given as goal

-- what is pushed so far, and the members that are left
abbrev pub invariant-loop-member : goal.invariant-loop-member
invariant-loop-member l =
    lent_texts l.all.items ++ l.members ≡ lent_texts l.fn.all.items ++ l.initial.members

abbrev pub decreases-loop-member : goal.decreases-loop-member
decreases-loop-member l = length l.members
