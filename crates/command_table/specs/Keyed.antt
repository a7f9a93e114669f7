-- Which commands name keys: all but those that look at none.
use Rattle.std.specs.Prelude.{◌≡◌, ◌<◌, ◌⊎◌, false, [], length, IsTrue}
use Rattle.command_table.specs.Command.{keys_of, is_whole}
use Rattle.command_table.specs.declared.command.Command.{Command}
use Rattle.command_table.specs.declared.command.Command.TheVariants as variant
use Rattle.command_table.specs.declared.command.Command.TheVariants.{Key, Str, Local}

-- the command is for all keys, or names one at least
abbrev pub NamesKeys : Command → Type 0
NamesKeys c = IsTrue (is_whole c) ⊎ (0 < length (keys_of c))

-- a command that looks at no key names none and isn't for all; every other one is for all or names one
abbrev pub IsKeyed : Command → Type 0
IsKeyed (Local c) = (keys_of (Local c) ≡ []) × (is_whole (Local c) ≡ false)
IsKeyed (Key c) = NamesKeys (Key c)
IsKeyed (Str c) = NamesKeys (Str c)
IsKeyed (variant.List c) = NamesKeys (variant.List c)
IsKeyed (variant.Hash c) = NamesKeys (variant.Hash c)
IsKeyed (variant.Set c) = NamesKeys (variant.Set c)
