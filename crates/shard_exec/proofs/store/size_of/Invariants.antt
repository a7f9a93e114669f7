use Rattle.std.proofs.Common.{◌≡◌, ◌-◌, drop, min, pos, sum_by}
use Rattle.std.specs.FinMap.{len}
use Rattle.shard_exec.proofs.store.size_of.Given as goal

-- the keys of the last shards
abbrev pub invariant-loop-done : goal.invariant-loop-done
invariant-loop-done l = l.size ≡ pos (min (sum_by len (drop (l.count - l.done) l.shards)) 9223372036854775807)
