-- Some of the shards, each with its number.
use Rattle.std.specs.Prelude.{◌≡◌, ℕ, Bool, List}
use Rattle.groups.specs.GroupSet.{has, IsAscending}
use Rattle.placement.specs.Layout.{Layout, shard_of}
use Rattle.shards.specs.Joined.{Span, numbers, SpanHasOwnKeys}

-- the shards of these groups, in the order of their numbers, each with only keys that the table places there
pub record IsSpan (table : Layout) (groups : List ℕ) (span : Span) : Type 0 where
  pub numbers : numbers span ≡ groups
  pub ascending : IsAscending groups
  pub own : SpanHasOwnKeys table span

-- the table places the key on one of these groups
abbrev pub lies_on : Layout → List ℕ → List ℕ → Bool
lies_on table groups key = has groups (shard_of table key)
