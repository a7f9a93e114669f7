use Rattle.std.proofs.Common.{◌-◌, ◌≤◌, drop, length}
use Rattle.std.specs.List.{AllByRecursion}
use Rattle.set_commands.specs.Combination.{found_sets}
use Rattle.values.specs.SetValue.{IsAscending}
use Rattle.set_commands.proofs.combine.smallest.Given as goal

-- the place is one of these sets, and the sets seen so far ascend
abbrev pub invariant-loop-i : goal.invariant-loop-i
invariant-loop-i l =
    (l.place ≤ length l.sets - 1)
    × (AllByRecursion IsAscending (found_sets (drop l.i l.sets)) → AllByRecursion IsAscending (found_sets l.sets))
