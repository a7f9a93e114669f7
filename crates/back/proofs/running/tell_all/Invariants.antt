use Rattle.std.proofs.Common.{◌≡◌, ◌+◌, ◌≤◌, ◌++◌, length, map, vec_capacity}
use Rattle.back.specs.Rows.{rows_of, results_of}
use Rattle.back.proofs.running.tell_all.Given as goal

-- what was told so far and what is to be told of the rest is what is told of all, and there is room for the rest
abbrev pub invariant-loop-request : goal.invariant-loop-request
invariant-loop-request l = record {
  rows : l.rows.rows ++ rows_of l.request-iterator.rest.items ≡ l.fn.rows.rows ++ rows_of l.fn.ended.items;
  done : l.room.rows.items ++ results_of l.request-iterator.rest.items ≡ results_of l.fn.ended.items;
  words : l.room.words.items ≡ map (λ e. e.words) l.request-iterator.rest.items;
  row_room : length l.request-iterator.rest.items ≤ l.rows.room;
  done_room : length l.room.rows.items + length l.request-iterator.rest.items ≤ vec_capacity l.room.rows;
}
