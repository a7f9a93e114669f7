use Rattle.std.proofs.Common.{◌≡◌, ℕ, ◌<◌, length, slice_get, Some}
use Rattle.skeen_core.specs.Group.{new_group}
use Rattle.multicast.proofs.multicast.new_groups.Given as goal

-- so many groups, each new
abbrev pub invariant-loop-number : goal.invariant-loop-number
invariant-loop-number l = record {
  count : length l.groups.items ≡ l.number;
  each : (g : ℕ) → g < length l.groups.items → slice_get l.groups.items g ≡ Some (new_group g);
}
