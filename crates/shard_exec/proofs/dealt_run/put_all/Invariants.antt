use Rattle.std.proofs.Common.{◌≡◌, ◌<◌, length}
use Rattle.std.specs.List.{AllByRecursion}
use Rattle.shard_exec.specs.Dealing.{placed, all_jobs, all_spans, AreInside}
use Rattle.shards.specs.Rows.{put_spans}
use Rattle.shard_exec.proofs.dealt_run.put_all.Given as goal

abbrev pub invariant-loop-rans : goal.invariant-loop-rans
invariant-loop-rans l = record {
  row : put_spans l.row.items (all_spans l.rans-iterator.rest.items) ≡ put_spans l.fn.row.items (all_spans l.fn.results.items);
  placed : placed l.slots.items (all_jobs l.rans-iterator.rest.items) ≡ placed l.fn.slots.items (all_jobs l.fn.results.items);
  shards : AllByRecursion (AllByRecursion (λ s. s.0 < length l.fn.row.items)) (all_spans l.rans-iterator.rest.items);
  places : AreInside (length l.fn.slots.items) (all_jobs l.rans-iterator.rest.items);
  len : length l.row.items ≡ length l.fn.row.items;
  len_slots : length l.slots.items ≡ length l.fn.slots.items;
}
