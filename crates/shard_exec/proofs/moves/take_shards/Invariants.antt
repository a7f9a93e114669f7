use Rattle.std.proofs.Common.{◌≡◌, ℕ, ◌+◌, ◌≤◌, ◌<◌, length, ◌++◌, true, vec_capacity}
use Rattle.std.specs.FinMap.{empty}
use Rattle.groups.specs.GroupSet.{has}
use Rattle.shards.specs.Rows.{taken_out, emptied}
use Rattle.shard_exec.proofs.moves.take_shards.Given as goal

abbrev pub invariant-loop-group : goal.invariant-loop-group
invariant-loop-group l = record {
  taken : l.span.items ++ taken_out empty l.row.items l.group-iterator ≡ taken_out empty l.fn.row.items l.fn.groups;
  left : emptied empty l.row.items l.group-iterator ≡ emptied empty l.fn.row.items l.fn.groups;
  inside : (g : ℕ) → has l.group-iterator g ≡ true → g < length l.row.items;
  room : length l.span.items + length l.group-iterator ≤ vec_capacity l.span;
}
