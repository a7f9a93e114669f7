use Rattle.std.proofs.Common.{◌≡◌, ℕ, ◌||◌}
use Rattle.groups.specs.GroupSet.{has, IsAscending}
use Rattle.tasks.proofs.addressing.joined.Given as goal

-- what is there, with those that are still to come, has the groups of both
abbrev pub invariant-loop-group : goal.invariant-loop-group
invariant-loop-group l = record {
  both : (g : ℕ) → (has l.all g || has l.group-iterator g) ≡ (has l.fn.groups g || has l.fn.others g);
  ascending : IsAscending l.all;
}
