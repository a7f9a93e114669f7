use Rattle.std.proofs.Common.{◌≡◌}
use Rattle.shards.proofs.Unions.{cleared}
use Rattle.shards.proofs.span.SpanKeyspace.clear.Given as goal

abbrev pub invariant-loop-index : goal.invariant-loop-index
invariant-loop-index g l = (l.self-inside.shards.items ≡ cleared l.index l.initial.self-inside.shards.items)
    × (l.self-inside.table ≡ l.initial.self-inside.table)
