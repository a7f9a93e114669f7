use Rattle.std.proofs.Common.{◌≡◌, ◌+◌, ◌≤◌, ◌++◌, length, vec_capacity}
use Rattle.back.specs.Rows.{results_of}
use Rattle.serial_store.proofs.results.results.Given as goal

-- what was moved so far and what comes of the rest is what comes of all, and there is room for the rest
abbrev pub invariant-loop-request : goal.invariant-loop-request
invariant-loop-request l = record {
  done : l.rows.items ++ results_of l.request-iterator.rest.items ≡ results_of l.fn.ended.items;
  room : length l.rows.items + length l.request-iterator.rest.items ≤ vec_capacity l.rows;
}
