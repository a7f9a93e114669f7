use Rattle.std.proofs.Common.{◌≡◌, None}
use Rattle.std.proofs.Math.ListN.{replicate}
use Rattle.std.specs.FinMap.{empty}
use Rattle.shard_exec.proofs.store.Store.with_hasher.Given as goal

abbrev pub invariant-loop-number : goal.invariant-loop-number
invariant-loop-number l = (l.shards.items ≡ replicate l.number empty) × (l.lasts.items ≡ replicate l.number None)
