use Rattle.std.proofs.Common.{◌≡◌, ◌+◌, ◌≤◌, length, ◌++◌, map, vec_capacity}
use Rattle.std.specs.List.{AllByRecursion}
use Rattle.std.specs.Option.{IsSome}
use Rattle.shard_exec.specs.Dealing.{filled}
use Rattle.shard_exec.specs.Layers.{ended_of}
use Rattle.shard_exec.specs.Stamps.{AreInRow, raised_by}
use Rattle.shard_exec.proofs.taking.tell_all.Given as goal

abbrev pub invariant-loop-slot : goal.invariant-loop-slot
invariant-loop-slot l = record {
  done : l.done.items ++ map ended_of (filled l.slot-iterator.rest.items) ≡ map ended_of (filled l.fn.slots.items);
  raised : raised_by l.lasts.items (filled l.slot-iterator.rest.items) ≡ raised_by l.fn.lasts.items (filled l.fn.slots.items);
  full : AllByRecursion IsSome l.slot-iterator.rest.items;
  inside : AreInRow (length l.fn.lasts.items) (filled l.slot-iterator.rest.items);
  room : length l.done.items + length l.slot-iterator.rest.items ≤ vec_capacity l.done;
  len : length l.lasts.items ≡ length l.fn.lasts.items;
}
