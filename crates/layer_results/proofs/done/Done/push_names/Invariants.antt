use Rattle.std.proofs.Common.{◌≡◌, ◌+◌, ◌≤◌, ◌++◌, length, take, vec_len, vec_capacity}
use Rattle.layer_results.specs.Results.{names_of}
use Rattle.layer_results.proofs.done.Done.push_names.Given as goal

-- the names of the rows so far were put, in the room that there was
abbrev pub invariant-loop-row : goal.invariant-loop-row
invariant-loop-row l = record {
  put : l.names.items ≡ l.fn.names.items ++ names_of (take l.row-index l.self);
  len : vec_len l.names ≡ vec_len l.fn.names + length (names_of (take l.row-index l.self));
  room : vec_capacity l.fn.names ≤ vec_capacity l.names;
}
