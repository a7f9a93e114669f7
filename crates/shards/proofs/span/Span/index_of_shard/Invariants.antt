use Rattle.std.proofs.Common.{◌≡◌, ℕ, ◌<◌, slice_index}
use Rattle.shards.specs.Joined.{numbers}
use Rattle.shards.proofs.span.Span.index_of_shard.Given as goal

-- the shards passed so far have other numbers
abbrev pub invariant-loop-index : goal.invariant-loop-index
invariant-loop-index g l = (k : ℕ) → k < l.index → slice_index (numbers l.shard-items) k ≡ l.number → ⊥
