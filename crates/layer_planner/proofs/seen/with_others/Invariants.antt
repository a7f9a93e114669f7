use Rattle.std.proofs.Common.{◌≡◌, ℕ, ◌||◌}
use Rattle.groups.specs.GroupSet.{has}
use Rattle.layer_planner.proofs.seen.with_others.Given as goal

-- what is put in and what is still to come are the groups of both
abbrev pub invariant-loop-group : goal.invariant-loop-group
invariant-loop-group l = (g : ℕ) → (has l.all g || has l.group-iterator g) ≡ (has l.fn.groups g || has l.fn.others g)
