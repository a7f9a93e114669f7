use Rattle.std.proofs.Common.{◌≡◌, ◌++◌, length}
use Rattle.std.specs.List.{filter}
use Rattle.set_commands.specs.Combination.{found_sets, is_in_all}
use Rattle.set_commands.specs.Lent.{lent_texts}
use Rattle.set_commands.proofs.combine.kept_in_each.Given as goal

-- what is kept so far, and what is kept of the members that are left
abbrev pub invariant-loop-member : goal.invariant-loop-member
invariant-loop-member l =
    lent_texts l.kept.items ++ filter (is_in_all (found_sets l.before) (found_sets l.after)) l.members
    ≡ filter (is_in_all (found_sets l.before) (found_sets l.after)) l.initial.members

abbrev pub decreases-loop-member : goal.decreases-loop-member
decreases-loop-member l = length l.members
