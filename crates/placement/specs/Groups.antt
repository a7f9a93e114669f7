-- The groups that a command addresses.
use Rattle.std.specs.Prelude.{ℕ, ◌==◌, ◌||◌, Bool, List}
use Rattle.std.specs.List.{list_any}
use Rattle.command_table.specs.Command.{keys_of, is_whole}
use Rattle.command_table.specs.declared.command.Command.{Command}
use Rattle.groups.specs.GroupSet.{chosen}
use Rattle.placement.specs.Layout.{Layout, shard_of}

-- one of the keys lies on the shard
abbrev pub has_key_on : Layout → ℕ → List (List ℕ) → Bool
has_key_on table shard keys = list_any (λ key. shard_of table key == shard) keys

-- the shards on which a key of the command lies, or all of them for a whole command; ascending, each once
abbrev pub groups_of : Layout → Command → List ℕ
groups_of table command = chosen (λ shard. is_whole command || has_key_on table shard (keys_of command)) 0 table.shards
