-- The shards of the slots while the ranges of a document are gone through.
use Rattle.std.specs.Prelude.{pos, map, ◌≡◌, ℕ, ◌<◌, true, false, List, Option, Some, None, IsSome, option_to_list, length, slice_index}
use Rattle.std.specs.Prelude.{slice_index_or}
use Rattle.placement.specs.declared.document.Range.{Range}
use Rattle.placement.specs.declared.slots.TheConstants.{SLOTS}
use Rattle.placement.specs.Layout.{has_slot, shards_at}

-- the shard that a slot has so far
abbrev pub owner : List (Option ℕ) → ℕ → Option ℕ
owner owners s = slice_index_or owners s None

-- each slot has the shard that its ranges name, if there is one
abbrev pub Owns : List Range → List (Option ℕ) → Type 0
Owns ranges owners = (s : ℕ) → s < SLOTS → shards_at s ranges ≡ map pos (option_to_list (owner owners s))

-- the slots of the range were free and have the shard, and the others are as they were
pub record Claims (range : Range) (shard : ℕ) (old new : List (Option ℕ)) : Type 0 where
  pub free : (s : ℕ) → has_slot s range ≡ true → owner old s ≡ None
  pub given : (s : ℕ) → has_slot s range ≡ true → owner new s ≡ Some shard
  pub kept : (s : ℕ) → has_slot s range ≡ false → owner new s ≡ owner old s

-- a slot of the range has a shard already
abbrev pub SomeTaken : Range → List (Option ℕ) → Type 0
SomeTaken range owners = (s : ℕ) × (s < SLOTS) × (has_slot s range ≡ true) × IsSome (owner owners s)

-- a slot has no shard
abbrev pub SomeUnowned : List (Option ℕ) → Type 0
SomeUnowned owners = (s : ℕ) × (s < SLOTS) × (owner owners s ≡ None)

-- each slot has a shard, and these are the shards
pub record OwnEach (owners : List (Option ℕ)) (shards : List ℕ) : Type 0 where
  pub each_slot : length shards ≡ SLOTS
  pub same : (s : ℕ) → s < SLOTS → owner owners s ≡ Some (slice_index shards s)
