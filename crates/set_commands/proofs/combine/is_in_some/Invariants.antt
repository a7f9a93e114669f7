use Rattle.std.proofs.Common.{◌≡◌, drop}
use Rattle.set_commands.specs.Combination.{found_sets, is_in_some}
use Rattle.set_commands.proofs.combine.is_in_some.Given as goal

-- the sets that are left decide
abbrev pub invariant-loop-set : goal.invariant-loop-set
invariant-loop-set l = is_in_some (found_sets (drop l.set-index l.sets)) l.member ≡ is_in_some (found_sets l.sets) l.member
