-- The groups that something addresses by its keys.
use Rattle.std.specs.Prelude.{ℕ, Bool, ◌||◌, List}
use Rattle.groups.specs.GroupSet.{chosen}
use Rattle.placement.specs.Groups.{has_key_on}
use Rattle.placement.specs.Layout.{Layout}

-- those on which its keys lie, or all where it is for all keys; ascending, each once
abbrev pub groups_told : Layout → Bool → List (List ℕ) → List ℕ
groups_told table whole keys = chosen (λ shard. whole || has_key_on table shard keys) 0 table.shards
