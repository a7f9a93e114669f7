-- The families of commands: the rows of each, and how its names begin.
use Rattle.std.specs.Prelude.{List, if◌then◌else◌, codes}
use Rattle.command_table.specs.declared.family.Family.{Family}
use Rattle.command_table.specs.declared.family.Family.TheVariants as family
use Rattle.command_table.specs.CommandRow.{CommandRow}
use Rattle.command_table.specs.HashCommands.{hash_rows}
use Rattle.command_table.specs.KeyCommands.{key_rows}
use Rattle.command_table.specs.ListCommands.{list_rows}
use Rattle.command_table.specs.LocalCommands.{local_rows}
use Rattle.command_table.specs.SetCommands.{set_rows}
use Rattle.command_table.specs.StringCommands.{string_rows}
use Rattle.command_table.specs.Words.{Word, has_letter}

abbrev pub rows_of : Family → List CommandRow
rows_of family.Local = local_rows
rows_of family.Key = key_rows
rows_of family.Str = string_rows
rows_of family.List = list_rows
rows_of family.Hash = hash_rows
rows_of family.Set = set_rows

-- the family by the first letters of the name
abbrev pub family_by_letters : Word → Family
family_by_letters name =
    if has_letter 0 (codes "gima") name
    then family.Str
    else if has_letter 0 (codes "s") name
    then (if has_letter 1 (codes "et") name then family.Str else family.Set)
    else if has_letter 0 (codes "h") name
    then family.Hash
    else if has_letter 0 (codes "l") name
    then family.List
    else if has_letter 0 (codes "p") name
    then family.Local
    else if has_letter 0 (codes "d") name
    then (if has_letter 2 (codes "c") name then family.Str else family.Key)
    else if has_letter 0 (codes "r") name
    then (if has_letter 1 (codes "p") name then family.List else family.Key)
    else if has_letter 0 (codes "e") name
    then (if has_letter 1 (codes "c") name then family.Local else family.Key)
    else family.Key
