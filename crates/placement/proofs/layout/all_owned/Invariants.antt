use Rattle.std.proofs.Common.{◌≡◌, ℕ, ◌<◌, length, slice_index, Some}
use Rattle.placement.specs.declared.slots.TheConstants.{SLOTS}
use Rattle.placement.specs.Owners.{owner}
use Rattle.placement.proofs.layout.all_owned.Given as goal

abbrev pub invariant-loop-slot : goal.invariant-loop-slot
invariant-loop-slot l = record {
  long : length l.shards ≡ SLOTS;
  owned : (s : ℕ) → s < l.slot → owner l.owners s ≡ Some (slice_index l.shards s);
}
