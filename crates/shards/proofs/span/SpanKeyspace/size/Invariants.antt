use Rattle.std.proofs.Common.{◌≡◌, min, pos, take}
use Rattle.shards.proofs.Sizes.{total}
use Rattle.shards.proofs.span.SpanKeyspace.size.Given as goal

-- the keys of the shards passed so far
abbrev pub invariant-loop-shard : goal.invariant-loop-shard
invariant-loop-shard g l = l.size ≡ pos (min (total (take l.shard-index l.shard-items)) 9223372036854775807)
