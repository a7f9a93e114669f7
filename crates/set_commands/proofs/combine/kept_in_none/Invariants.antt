use Rattle.std.proofs.Common.{◌≡◌, ◌++◌, not, length}
use Rattle.std.specs.List.{filter}
use Rattle.set_commands.specs.Combination.{found_sets, is_in_some}
use Rattle.set_commands.specs.Lent.{lent_texts}
use Rattle.set_commands.proofs.combine.kept_in_none.Given as goal

-- what is kept so far, and what is kept of the members that are left
abbrev pub invariant-loop-member : goal.invariant-loop-member
invariant-loop-member l =
    lent_texts l.kept.items ++ filter (λ member. not (is_in_some (found_sets l.others) member)) l.members
    ≡ filter (λ member. not (is_in_some (found_sets l.others) member)) l.initial.members

abbrev pub decreases-loop-member : goal.decreases-loop-member
decreases-loop-member l = length l.members
