use Rattle.std.proofs.Common.{◌≡◌, ◌-◌, drop}
use Rattle.shards.specs.Joined.{joined}
use Rattle.shard_exec.proofs.store.add_shards.Given as goal

-- the last shards were added
abbrev pub invariant-loop-done : goal.invariant-loop-done
invariant-loop-done l = l.dump ≡ joined (drop (l.count - l.done) l.shards)
