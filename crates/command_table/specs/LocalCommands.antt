-- The commands that look at no key: what their words say, what is told of each, and their rows.
use Rattle.std.specs.Prelude.{List, [], ◌∷◌, Ok, Err, Some, None, codes}
use Rattle.command_table.specs.declared.arity.Arity.TheVariants.{Exactly, AtLeast}
use Rattle.command_table.specs.declared.command.Command.TheVariants.{Local}
use Rattle.command_table.specs.declared.local_commands.LocalCommand.{LocalCommand}
use Rattle.command_table.specs.declared.local_commands.LocalCommand.TheVariants.{Ping, Echo}
use Rattle.command_table.specs.declared.refusal.Refusal.TheVariants.{Arity}
use Rattle.command_table.specs.KeySpan.{NoKeys}
use Rattle.command_table.specs.CommandRow.{CommandRow, Reading}
use Rattle.command_table.specs.Telling.{Telling, These}
use Rattle.command_table.specs.Words.{Word, word}

abbrev pub local_command_told : LocalCommand → Telling
local_command_told (Ping word) = record { name = codes "ping"; keys = These [] }
local_command_told (Echo word) = record { name = codes "echo"; keys = These [] }

-- PING takes one word at most
abbrev pub ping_reading : List Word → Reading
ping_reading [] = Ok (Local (Ping None))
ping_reading (w ∷ []) = Ok (Local (Ping (Some w)))
ping_reading (w ∷ v ∷ ws) = Err (Arity (codes "ping"))

abbrev pub ping_row : CommandRow
ping_row = record { name = codes "ping"; arity = AtLeast 1; keys = NoKeys; reading = ping_reading }

abbrev pub echo_row : CommandRow
echo_row = record { name = codes "echo"; arity = Exactly 2; keys = NoKeys; reading = λ words. Ok (Local (Echo (word words 0))) }

abbrev pub local_rows : List CommandRow
local_rows = ping_row ∷ echo_row ∷ []
