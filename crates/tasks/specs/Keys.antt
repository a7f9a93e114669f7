-- The keys of a batch.
use Rattle.std.specs.Prelude.{Bool, true, false, ◌||◌, List, [], ◌∷◌}
use Rattle.std.specs.List.{flat_map, list_any}
use Rattle.command_table.specs.Command.{keys_of, is_whole}
use Rattle.command_table.specs.Words.{Word}
use Rattle.sessions.specs.declared.batch.Batch.{Batch}
use Rattle.sessions.specs.declared.batch.Batch.TheVariants.{Plain, Exec}
use Rattle.sessions.specs.declared.member.Member.{Member}
use Rattle.sessions.specs.declared.member.Member.TheVariants.{Runs, Refused}

abbrev pub member_keys : Member → List Word
member_keys (Runs command) = keys_of command
member_keys (Refused misread) = []

abbrev pub member_whole : Member → Bool
member_whole (Runs command) = is_whole command
member_whole (Refused misread) = false

-- the keys of its members, in their order, repeats kept
abbrev pub batch_keys : Batch → List Word
batch_keys (Plain command) = keys_of command
batch_keys (Exec members) = flat_map member_keys members

-- one of its members is for all keys there are
abbrev pub batch_whole : Batch → Bool
batch_whole (Plain command) = is_whole command
batch_whole (Exec members) = list_any member_whole members

-- one of its members looks at a key
abbrev pub names_some : List Word → Bool
names_some [] = false
names_some (key ∷ keys) = true

abbrev pub looks_at_keys : Batch → Bool
looks_at_keys batch = batch_whole batch || names_some (batch_keys batch)
