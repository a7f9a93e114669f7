use Rattle.std.proofs.Common.{◌≡◌, [], ◌++◌, drop}
use Rattle.std.specs.List.{flat_map}
use Rattle.set_commands.specs.Combination.{found_sets, union}
use Rattle.set_commands.specs.Lent.{lent_texts}
use Rattle.values.specs.SetValue.{with_members}
use Rattle.set_commands.proofs.combine.union.Given as goal

-- the members so far, and those of the sets that are left
abbrev pub invariant-loop-set : goal.invariant-loop-set
invariant-loop-set l =
    with_members [] (lent_texts l.all.items ++ flat_map (λ members. members) (found_sets (drop l.set-index l.sets)))
    ≡ union (found_sets l.sets)
