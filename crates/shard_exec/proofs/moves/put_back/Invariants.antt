use Rattle.std.proofs.Common.{◌≡◌, ◌<◌, length}
use Rattle.std.specs.List.{AllByRecursion}
use Rattle.shards.specs.Rows.{put_span}
use Rattle.shard_exec.proofs.moves.put_back.Given as goal

abbrev pub invariant-loop-number : goal.invariant-loop-number
invariant-loop-number l = record {
  put : put_span l.row.items l.number-iterator.rest.items ≡ put_span l.fn.row.items l.fn.span.items;
  inside : AllByRecursion (λ s. s.0 < length l.fn.row.items) l.number-iterator.rest.items;
  len : length l.row.items ≡ length l.fn.row.items;
}
