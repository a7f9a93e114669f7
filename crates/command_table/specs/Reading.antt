-- How a request is read: the table of commands, family by family.
use Rattle.std.specs.Prelude.{List, [], ◌∷◌, ◌++◌, ◌≡◌, Err, unwrap_or, Some}
use Rattle.command_table.specs.declared.refusal.Refusal.TheVariants.{Unknown}
use Rattle.command_table.specs.declared.command.Command.{Command}
use Rattle.command_table.specs.Command.{told_of}
use Rattle.command_table.specs.HashCommands.{hash_rows}
use Rattle.command_table.specs.KeyCommands.{key_rows}
use Rattle.command_table.specs.ListCommands.{list_rows}
use Rattle.command_table.specs.LocalCommands.{local_rows}
use Rattle.command_table.specs.CommandRow.{CommandRow, Reading, row_of, row_told, reading_among}
use Rattle.command_table.specs.SetCommands.{set_rows}
use Rattle.command_table.specs.StringCommands.{string_rows}
use Rattle.command_table.specs.Words.{Word, lower}

-- the table
abbrev pub rows : List CommandRow
rows = local_rows ++ key_rows ++ string_rows ++ list_rows ++ hash_rows ++ set_rows

-- what these words say, the first of which is a name in any case
abbrev pub reading : List Word → Reading
reading [] = Err Unknown
reading (name ∷ words) = unwrap_or (reading_among rows (lower name) words) (Err Unknown)

-- the first word names a row, and what is told of the command is what that row tells: its name, which of the words are
-- its keys, and whether it is for all keys
abbrev pub IsTold : List Word → Command → Type 0
IsTold [] c = ⊥
IsTold (name ∷ words) c = (r : CommandRow) × (row_of rows (lower name) ≡ Some r) × (told_of c ≡ row_told r (name ∷ words))
