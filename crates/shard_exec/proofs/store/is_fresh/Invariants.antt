use Rattle.std.proofs.Common.{◌≡◌, ℕ, true}
use Rattle.groups.specs.GroupSet.{has}
use Rattle.shard_exec.specs.Stamps.{is_above, last_of}
use Rattle.shard_exec.proofs.store.is_fresh.Given as goal

-- each group is passed, and the stamp is above its last one, or is still to come
abbrev pub invariant-loop-group : goal.invariant-loop-group
invariant-loop-group l = record {
  passed : (g : ℕ) → has l.job.groups g ≡ true → (has l.group-iterator g ≡ true → is_above (last_of l.lasts g) l.job.stamp ≡ true)
      → is_above (last_of l.lasts g) l.job.stamp ≡ true;
  among : (g : ℕ) → has l.group-iterator g ≡ true → has l.job.groups g ≡ true;
}
