use Rattle.std.proofs.Common.{◌≡◌, length}
use Rattle.shard_exec.specs.Dealing.{placed, AreInside}
use Rattle.shard_exec.proofs.taking.place_rans.Given as goal

abbrev pub invariant-loop-ran : goal.invariant-loop-ran
invariant-loop-ran l = record {
  placed : placed l.slots.items l.ran-iterator.rest.items ≡ placed l.fn.slots.items l.fn.rans.items;
  inside : AreInside (length l.fn.slots.items) l.ran-iterator.rest.items;
  len : length l.slots.items ≡ length l.fn.slots.items;
}
