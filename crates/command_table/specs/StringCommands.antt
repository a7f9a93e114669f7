-- The commands on strings: what is told of each, what their words say, and their rows.
use Rattle.std.specs.Prelude.{Bool, true, false, ◌||◌, List, [], ◌∷◌, drop, Result, Ok, Err, if◌then◌else◌, codes}
use Rattle.std.specs.List.{list_any, list_all}
use Rattle.command_table.specs.declared.arity.Arity.TheVariants.{Exactly, AtLeast}
use Rattle.command_table.specs.declared.command.Command.TheVariants.{Str}
use Rattle.command_table.specs.declared.refusal.Refusal.{Refusal}
use Rattle.command_table.specs.declared.refusal.Refusal.TheVariants.{Syntax}
use Rattle.command_table.specs.declared.string_commands.Condition.{Condition}
use Rattle.command_table.specs.declared.string_commands.Condition.TheVariants.{Always, IfAbsent, IfPresent}
use Rattle.command_table.specs.declared.string_commands.StringCommand.{StringCommand}
use Rattle.command_table.specs.declared.string_commands.StringCommand.TheVariants.{Get, Set, Setnx, Getset, Getdel, Mget, Strlen, Getrange}
use Rattle.command_table.specs.declared.string_commands.StringCommand.TheVariants.{Incr, Decr, Incrby, Decrby, Append, Setrange, Mset}
use Rattle.command_table.specs.declared.string_commands.StringCommand.TheVariants.{Msetnx}
use Rattle.command_table.specs.KeySpan.{Between, ToLastWord}
use Rattle.command_table.specs.CommandRow.{CommandRow, Reading, then_reading, integer_reading, pairs_reading}
use Rattle.command_table.specs.Telling.{Telling, These, named}
use Rattle.command_table.specs.Words.{Word, word, is_word}
use Rattle.texts.specs.Texts.{firsts}

abbrev pub string_command_told : StringCommand → Telling
string_command_told (Get key) = record { name = codes "get"; keys = These (key ∷ []) }
string_command_told (Set key value condition) = record { name = codes "set"; keys = These (key ∷ []) }
string_command_told (Setnx key value) = record { name = codes "setnx"; keys = These (key ∷ []) }
string_command_told (Getset key value) = record { name = codes "getset"; keys = These (key ∷ []) }
string_command_told (Getdel key) = record { name = codes "getdel"; keys = These (key ∷ []) }
string_command_told (Mget keys) = record { name = codes "mget"; keys = These keys }
string_command_told (Strlen key) = record { name = codes "strlen"; keys = These (key ∷ []) }
string_command_told (Getrange key start end) = record { name = codes "getrange"; keys = These (key ∷ []) }
string_command_told (Incr key) = record { name = codes "incr"; keys = These (key ∷ []) }
string_command_told (Decr key) = record { name = codes "decr"; keys = These (key ∷ []) }
string_command_told (Incrby key by) = record { name = codes "incrby"; keys = These (key ∷ []) }
string_command_told (Decrby key by) = record { name = codes "decrby"; keys = These (key ∷ []) }
string_command_told (Append key tail) = record { name = codes "append"; keys = These (key ∷ []) }
string_command_told (Setrange key offset value) = record { name = codes "setrange"; keys = These (key ∷ []) }
string_command_told (Mset pairs) = record { name = codes "mset"; keys = These (firsts pairs) }
string_command_told (Msetnx pairs) = record { name = codes "msetnx"; keys = These (firsts pairs) }

abbrev pub string_command_keys : StringCommand → List Word
string_command_keys c = named (string_command_told c).keys

-- the two options of SET
abbrev pub is_nx : Word → Bool
is_nx = is_word (codes "nx")

abbrev pub is_xx : Word → Bool
is_xx = is_word (codes "xx")

abbrev pub is_option : Word → Bool
is_option w = is_nx w || is_xx w

-- what the options ask for, by whether NX and whether XX is among them
abbrev pub condition_of : Bool → Bool → Result Condition Refusal
condition_of false false = Ok Always
condition_of true false = Ok IfAbsent
condition_of false true = Ok IfPresent
condition_of true true = Err Syntax

-- the condition that the options state: each is NX or XX, and not both are there
abbrev pub options_condition : List Word → Result Condition Refusal
options_condition options =
    if list_all is_option options then condition_of (list_any is_nx options) (list_any is_xx options) else Err Syntax

abbrev pub set_reading : List Word → Reading
set_reading words =
    then_reading (options_condition (drop 2 words)) (λ condition. Ok (Str (Set (word words 0) (word words 1) condition)))

abbrev pub get_row : CommandRow
get_row = record { name = codes "get"; arity = Exactly 2; keys = Between 1 1; reading = λ words. Ok (Str (Get (word words 0))) }

abbrev pub set_row : CommandRow
set_row = record { name = codes "set"; arity = AtLeast 3; keys = Between 1 1; reading = set_reading }

abbrev pub setnx_row : CommandRow
setnx_row = record {
  name = codes "setnx";
  arity = Exactly 3;
  keys = Between 1 1;
  reading =
      λ words. Ok (Str (Setnx (word words 0) (word words 1)));
}

abbrev pub getset_row : CommandRow
getset_row = record {
  name = codes "getset";
  arity = Exactly 3;
  keys = Between 1 1;
  reading = λ words. Ok (Str (Getset (word words 0) (word words 1)));
}

abbrev pub getdel_row : CommandRow
getdel_row = record { name = codes "getdel"; arity = Exactly 2; keys = Between 1 1; reading = λ words. Ok (Str (Getdel (word words 0))) }

abbrev pub mget_row : CommandRow
mget_row = record { name = codes "mget"; arity = AtLeast 2; keys = ToLastWord 1 1; reading = λ words. Ok (Str (Mget words)) }

abbrev pub strlen_row : CommandRow
strlen_row = record { name = codes "strlen"; arity = Exactly 2; keys = Between 1 1; reading = λ words. Ok (Str (Strlen (word words 0))) }

-- the start is read before the end
abbrev pub getrange_reading : List Word → Reading
getrange_reading words =
    integer_reading (word words 1) (λ start. integer_reading (word words 2) (λ end. Ok (Str (Getrange (word words 0) start end))))

abbrev pub getrange_row : CommandRow
getrange_row = record { name = codes "getrange"; arity = Exactly 4; keys = Between 1 1; reading = getrange_reading }

abbrev pub incr_row : CommandRow
incr_row = record { name = codes "incr"; arity = Exactly 2; keys = Between 1 1; reading = λ words. Ok (Str (Incr (word words 0))) }

abbrev pub decr_row : CommandRow
decr_row = record { name = codes "decr"; arity = Exactly 2; keys = Between 1 1; reading = λ words. Ok (Str (Decr (word words 0))) }

abbrev pub incrby_reading : List Word → Reading
incrby_reading words = integer_reading (word words 1) (λ by. Ok (Str (Incrby (word words 0) by)))

abbrev pub incrby_row : CommandRow
incrby_row = record { name = codes "incrby"; arity = Exactly 3; keys = Between 1 1; reading = incrby_reading }

abbrev pub decrby_reading : List Word → Reading
decrby_reading words = integer_reading (word words 1) (λ by. Ok (Str (Decrby (word words 0) by)))

abbrev pub decrby_row : CommandRow
decrby_row = record { name = codes "decrby"; arity = Exactly 3; keys = Between 1 1; reading = decrby_reading }

abbrev pub append_row : CommandRow
append_row = record {
  name = codes "append";
  arity = Exactly 3;
  keys = Between 1 1;
  reading = λ words. Ok (Str (Append (word words 0) (word words 1)));
}

abbrev pub setrange_reading : List Word → Reading
setrange_reading words = integer_reading (word words 1) (λ offset. Ok (Str (Setrange (word words 0) offset (word words 2))))

abbrev pub setrange_row : CommandRow
setrange_row = record { name = codes "setrange"; arity = Exactly 4; keys = Between 1 1; reading = setrange_reading }

-- the words are keys and their values by turns
abbrev pub mset_row : CommandRow
mset_row = record {
  name = codes "mset";
  arity = AtLeast 3;
  keys = ToLastWord 1 2;
  reading = pairs_reading (codes "mset") (λ pairs. Str (Mset pairs));
}

abbrev pub msetnx_row : CommandRow
msetnx_row = record {
  name = codes "msetnx";
  arity = AtLeast 3;
  keys = ToLastWord 1 2;
  reading = pairs_reading (codes "msetnx") (λ pairs. Str (Msetnx pairs));
}

abbrev pub string_rows : List CommandRow
string_rows =
    get_row ∷ set_row ∷ incr_row ∷ mget_row ∷ mset_row ∷ setnx_row ∷ getset_row ∷ getdel_row ∷ strlen_row ∷ getrange_row
    ∷ decr_row ∷ incrby_row ∷ decrby_row ∷ append_row ∷ setrange_row ∷ msetnx_row ∷ []
