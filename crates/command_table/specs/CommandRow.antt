-- A row of the table of commands, in the terms of the Redis command reference, and how rows are used.
use Rattle.std.specs.Prelude.{◌+◌, List, [], ◌∷◌, Option, Some, None, Result, Ok, Err, ℤ, ◌%◌, ◌==◌}
use Rattle.std.specs.Prelude.{if◌then◌else◌, length, option_map}
use Rattle.std.specs.Str.{bytes_eq}
use Rattle.command_table.specs.declared.arity.Arity.{Arity}
use Rattle.command_table.specs.declared.command.Command.{Command}
use Rattle.command_table.specs.declared.refusal.Refusal.{Refusal}
use Rattle.command_table.specs.declared.refusal.Refusal.TheVariants as refusal
use Rattle.command_table.specs.Arity.{admits}
use Rattle.command_table.specs.KeySpan.{KeySpan, keys_in}
use Rattle.command_table.specs.Telling.{Telling}
use Rattle.command_table.specs.Words.{Word, integer_word, pairs_of}

-- what comes of reading words
abbrev pub Reading : Type 0
Reading = Result Command Refusal

-- a command's name in lower case, how many words it takes, which of them are keys, and what the words after the name
-- say
pub record CommandRow : Type 0 where
  pub name : Word
  pub arity : Arity
  pub keys : KeySpan
  pub reading : List Word → Reading

-- what a row tells of the command that these words say, the first of which is a name in any case
abbrev pub row_told : CommandRow → List Word → Telling
row_told r words = record { name = r.name; keys = keys_in r.keys words }

-- the row of this name
abbrev pub row_of : List CommandRow → Word → Option CommandRow
row_of [] name = None
row_of (r ∷ rs) name = if bytes_eq name r.name then Some r else row_of rs name

-- what a row says of the words after the name: how many there are is looked at first
abbrev pub row_reading : CommandRow → List Word → Reading
row_reading r words = if admits r.arity (length words + 1) then r.reading words else Err (refusal.Arity r.name)

-- what these rows say of a name and the words after it; None where no row has the name
abbrev pub reading_among : List CommandRow → Word → List Word → Option Reading
reading_among rows name words = option_map (λ r. row_reading r words) (row_of rows name)

-- what the words say where they are pairs; an odd number of words is a wrong one
abbrev pub pairs_reading : Word → (List (Word × Word) → Command) → List Word → Reading
pairs_reading name make words = if length words % 2 == 0 then Ok (make (pairs_of words)) else Err (refusal.Arity name)

-- what the words say, by what some of them say, unless those are refused
abbrev pub then_reading : {A : Type 0} → Result A Refusal → (A → Reading) → Reading
then_reading (Ok said) make = make said
then_reading (Err refused) make = Err refused

-- what the words say, by the integer that one of them is; a word that isn't one is refused
abbrev pub integer_reading : Word → (ℤ → Reading) → Reading
integer_reading w make = then_reading (integer_word w) make
