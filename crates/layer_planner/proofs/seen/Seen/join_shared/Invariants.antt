use Rattle.std.proofs.Common.{◌≡◌, ℕ, true}
use Rattle.groups.specs.GroupSet.{has}
use Rattle.layer_planner.proofs.Gathering.{IsFree}
use Rattle.layer_planner.proofs.seen.Seen.join_shared.Given as goal

-- each group is free, or is still to come
abbrev pub invariant-loop-group : goal.invariant-loop-group
invariant-loop-group l = record {
  passed : (g : ℕ) → has l.groups g ≡ true → (has l.group-iterator g ≡ true → IsFree l.self g) → IsFree l.self g;
  among : (g : ℕ) → has l.group-iterator g ≡ true → has l.groups g ≡ true;
}
