-- What is told of each command: its name, in lower case, and its keys, in order of its words.
use Rattle.std.specs.Prelude.{Bool, List}
use Rattle.command_table.specs.declared.command.Command.{Command}
use Rattle.command_table.specs.declared.command.Command.TheVariants.{Key, Str, Hash, Local}
use Rattle.command_table.specs.declared.command.Command.TheVariants as variant
use Rattle.command_table.specs.HashCommands.{hash_command_told}
use Rattle.command_table.specs.KeyCommands.{key_command_told}
use Rattle.command_table.specs.ListCommands.{list_command_told}
use Rattle.command_table.specs.LocalCommands.{local_command_told}
use Rattle.command_table.specs.SetCommands.{set_command_told}
use Rattle.command_table.specs.StringCommands.{string_command_told}
use Rattle.command_table.specs.Telling.{Telling, named, is_all}
use Rattle.command_table.specs.Words.{Word}

abbrev pub told_of : Command → Telling
told_of (Local c) = local_command_told c
told_of (Key c) = key_command_told c
told_of (Str c) = string_command_told c
told_of (variant.List c) = list_command_told c
told_of (Hash c) = hash_command_told c
told_of (variant.Set c) = set_command_told c

abbrev pub name_of : Command → Word
name_of c = (told_of c).name

abbrev pub keys_of : Command → List Word
keys_of c = named (told_of c).keys

-- the command is for all keys there are
abbrev pub is_whole : Command → Bool
is_whole c = is_all (told_of c).keys
