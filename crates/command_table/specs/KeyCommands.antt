-- The commands on keys of any type: what is told of each, and their rows, with what their words say.
use Rattle.std.specs.Prelude.{◌||◌, List, [], ◌∷◌, Ok, Err, if◌then◌else◌, codes}
use Rattle.command_table.specs.declared.arity.Arity.TheVariants.{Exactly, AtLeast}
use Rattle.command_table.specs.declared.command.Command.TheVariants.{Key}
use Rattle.command_table.specs.declared.key_commands.KeyCommand.{KeyCommand}
use Rattle.command_table.specs.declared.key_commands.KeyCommand.TheVariants.{Del, Unlink, Exists, TypeOf, Rename, Renamenx, Dbsize}
use Rattle.command_table.specs.declared.key_commands.KeyCommand.TheVariants.{Flushall}
use Rattle.command_table.specs.declared.refusal.Refusal.TheVariants.{Syntax}
use Rattle.command_table.specs.KeySpan.{AllThereAre, Between, ToLastWord}
use Rattle.command_table.specs.CommandRow.{CommandRow, Reading}
use Rattle.command_table.specs.Telling.{Telling, All, These, named}
use Rattle.command_table.specs.Words.{Word, word, is_word}

abbrev pub key_command_told : KeyCommand → Telling
key_command_told (Del keys) = record { name = codes "del"; keys = These keys }
key_command_told (Unlink keys) = record { name = codes "unlink"; keys = These keys }
key_command_told (Exists keys) = record { name = codes "exists"; keys = These keys }
key_command_told (TypeOf key) = record { name = codes "type"; keys = These (key ∷ []) }
key_command_told (Rename from to) = record { name = codes "rename"; keys = These (from ∷ to ∷ []) }
key_command_told (Renamenx from to) = record { name = codes "renamenx"; keys = These (from ∷ to ∷ []) }
key_command_told Dbsize = record { name = codes "dbsize"; keys = All }
key_command_told Flushall = record { name = codes "flushall"; keys = All }

abbrev pub key_command_keys : KeyCommand → List Word
key_command_keys c = named (key_command_told c).keys

-- each word is a key
abbrev pub del_row : CommandRow
del_row = record { name = codes "del"; arity = AtLeast 2; keys = ToLastWord 1 1; reading = λ words. Ok (Key (Del words)) }

abbrev pub unlink_row : CommandRow
unlink_row = record { name = codes "unlink"; arity = AtLeast 2; keys = ToLastWord 1 1; reading = λ words. Ok (Key (Unlink words)) }

abbrev pub exists_row : CommandRow
exists_row = record { name = codes "exists"; arity = AtLeast 2; keys = ToLastWord 1 1; reading = λ words. Ok (Key (Exists words)) }

abbrev pub type_row : CommandRow
type_row = record { name = codes "type"; arity = Exactly 2; keys = Between 1 1; reading = λ words. Ok (Key (TypeOf (word words 0))) }

abbrev pub rename_row : CommandRow
rename_row = record {
  name = codes "rename";
  arity = Exactly 3;
  keys = Between 1 2;
  reading =
      λ words. Ok (Key (Rename (word words 0) (word words 1)));
}

abbrev pub renamenx_row : CommandRow
renamenx_row = record {
  name = codes "renamenx";
  arity = Exactly 3;
  keys = Between 1 2;
  reading =
      λ words. Ok (Key (Renamenx (word words 0) (word words 1)));
}

abbrev pub dbsize_row : CommandRow
dbsize_row = record { name = codes "dbsize"; arity = Exactly 1; keys = AllThereAre; reading = λ words. Ok (Key Dbsize) }

-- FLUSHALL takes one word at most, ASYNC or SYNC, which asks for nothing else
abbrev pub flushall_reading : List Word → Reading
flushall_reading [] = Ok (Key Flushall)
flushall_reading (w ∷ []) = if is_word (codes "async") w || is_word (codes "sync") w then Ok (Key Flushall) else Err Syntax
flushall_reading (w ∷ v ∷ ws) = Err Syntax

abbrev pub flushall_row : CommandRow
flushall_row = record { name = codes "flushall"; arity = AtLeast 1; keys = AllThereAre; reading = flushall_reading }

abbrev pub key_rows : List CommandRow
key_rows = del_row ∷ unlink_row ∷ exists_row ∷ type_row ∷ rename_row ∷ renamenx_row ∷ dbsize_row ∷ flushall_row ∷ []
