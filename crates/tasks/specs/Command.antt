-- What a command does and answers.
use Rattle.std.specs.Prelude.{◌≡◌, false, if◌then◌else◌}
use Rattle.tasks.specs.LocalCommand.{local_reply}
use Rattle.command_cases.specs.Case.{Case, one}
use Rattle.command_table.specs.Command.{keys_of, is_whole}
use Rattle.command_table.specs.declared.command.Command.{Command}
use Rattle.command_table.specs.declared.command.Command.TheVariants.{Key, Str, Hash, Local}
use Rattle.command_table.specs.declared.command.Command.TheVariants as variant
use Rattle.hash_commands.specs.HashCommand.{hash_command_case, HashCommandTakesMemory}
use Rattle.key_commands.specs.KeyCommand.{key_command_case, KeyCommandTakesMemory}
use Rattle.keyspace.specs.Map.{Map, AreApart}
use Rattle.list_commands.specs.ListCommand.{list_command_case, ListCommandTakesMemory}
use Rattle.set_commands.specs.SetCommand.{set_command_case, SetCommandTakesMemory}
use Rattle.string_commands.specs.StringCommand.{string_command_case, StringCommandTakesMemory}

-- what a command does to a map that has its keys, and what it answers
abbrev pub case_of : Command → Case
case_of (Key c) = key_command_case c
case_of (Str c) = string_command_case c
case_of (variant.List c) = list_command_case c
case_of (Hash c) = hash_command_case c
case_of (variant.Set c) = set_command_case c
case_of (Local c) = λ m. (m, local_reply c)

-- what a command does to the map of all keys: its case on what the map has at its own keys, which is then put back in
-- their place. A command for all keys has the whole map
abbrev pub effect_of : Command → Case
effect_of command m = if is_whole command then case_of command m else one (keys_of command) (case_of command) m

-- where a command takes memory, so that there may be none for it
abbrev pub TakesMemory : Command → Map → Type 0
TakesMemory (Key c) = KeyCommandTakesMemory c
TakesMemory (Str c) = StringCommandTakesMemory c
TakesMemory (variant.List c) = ListCommandTakesMemory c
TakesMemory (Hash c) = HashCommandTakesMemory c
TakesMemory (variant.Set c) = SetCommandTakesMemory c
TakesMemory (Local c) = λ m. ⊥

-- two commands with no key in common: each answers the same whether the other has run before it or not
abbrev pub AnswersCommute : Type 0
AnswersCommute = (a b : Command) (m : Map) → is_whole a ≡ false → is_whole b ≡ false → AreApart (keys_of a) (keys_of b)
    → (effect_of b (effect_of a m).0).1 ≡ (effect_of b m).1

-- and the map is the same whichever of the two runs first
abbrev pub ContentsCommute : Type 0
ContentsCommute = (a b : Command) (m : Map) → is_whole a ≡ false → is_whole b ≡ false → AreApart (keys_of a) (keys_of b)
    → (effect_of b (effect_of a m).0).0 ≡ (effect_of a (effect_of b m).0).0
