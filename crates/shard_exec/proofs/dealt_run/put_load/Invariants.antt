use Rattle.std.proofs.Common.{◌≡◌, ◌<◌, length}
use Rattle.std.specs.List.{AllByRecursion}
use Rattle.shard_exec.specs.Dealing.{placed, jobs_of, spans_of, AreInside}
use Rattle.shards.specs.Rows.{put_spans}
use Rattle.shard_exec.proofs.dealt_run.put_load.Given as goal

abbrev pub invariant-loop-ran : goal.invariant-loop-ran
invariant-loop-ran l = record {
  row : put_spans l.row.items (spans_of l.ran-iterator.rest.items) ≡ put_spans l.fn.row.items (spans_of l.fn.rans.items);
  placed : placed l.slots.items (jobs_of l.ran-iterator.rest.items) ≡ placed l.fn.slots.items (jobs_of l.fn.rans.items);
  shards : AllByRecursion (AllByRecursion (λ s. s.0 < length l.fn.row.items)) (spans_of l.ran-iterator.rest.items);
  places : AreInside (length l.fn.slots.items) (jobs_of l.ran-iterator.rest.items);
  len : length l.row.items ≡ length l.fn.row.items;
  len_slots : length l.slots.items ≡ length l.fn.slots.items;
}
