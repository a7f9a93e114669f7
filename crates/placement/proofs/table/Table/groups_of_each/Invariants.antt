use Rattle.std.proofs.Common.{◌≡◌, take}
use Rattle.command_table.specs.Held.{keys_held}
use Rattle.command_table.specs.Telling.{named}
use Rattle.groups.specs.GroupSet.{chosen}
use Rattle.placement.specs.Groups.{has_key_on}
use Rattle.placement.proofs.table.Table.groups_of_each.Given as goal

-- the groups so far are those of the keys so far
abbrev pub invariant-loop-index : goal.invariant-loop-index
invariant-loop-index l = l.groups ≡ chosen (λ shard. has_key_on l.self shard (take l.index (named (keys_held l.keys)))) 0 l.self.shards
