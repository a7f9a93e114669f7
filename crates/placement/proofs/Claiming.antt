-- The slots of a range, given to a shard one after another.
use Rattle.std.proofs.Common.{◌≡◌, ℕ, ◌<◌, ◌≤◌, length, List, Option, Some, None}
use Rattle.placement.specs.declared.slots.TheConstants.{SLOTS}
use Rattle.placement.specs.Owners.{owner}

-- from `from` on, the slots below `to` were free and have the shard, and the others are as they were
pub record ClaimedTo (from to shard : ℕ) (old new : List (Option ℕ)) : Type 0 where
  pub long : length new ≡ SLOTS
  pub free : (s : ℕ) → from ≤ s → s < to → owner old s ≡ None
  pub given : (s : ℕ) → from ≤ s → s < to → owner new s ≡ Some shard
  pub before : (s : ℕ) → s < from → owner new s ≡ owner old s
  pub behind : (s : ℕ) → to ≤ s → owner new s ≡ owner old s
