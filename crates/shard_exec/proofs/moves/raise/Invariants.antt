use Rattle.std.proofs.Common.{◌≡◌, ℕ, ◌<◌, length, true}
use Rattle.groups.specs.GroupSet.{has}
use Rattle.shard_exec.specs.Stamps.{raise}
use Rattle.shard_exec.proofs.moves.raise.Given as goal

abbrev pub invariant-loop-group : goal.invariant-loop-group
invariant-loop-group l = record {
  raised : raise l.lasts.items l.group-iterator l.stamp ≡ raise l.fn.lasts.items l.fn.groups l.stamp;
  inside : (g : ℕ) → has l.group-iterator g ≡ true → g < length l.lasts.items;
  len : length l.lasts.items ≡ length l.fn.lasts.items;
}
