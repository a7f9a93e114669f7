-- The commands on lists: what is told of each, what their words say, and their rows.
use Rattle.std.specs.Prelude.{List, [], ◌∷◌, drop, Result, Ok, Err, if◌then◌else◌, codes}
use Rattle.command_table.specs.declared.arity.Arity.TheVariants.{Exactly, AtLeast}
use Rattle.command_table.specs.declared.command.Command.TheVariants as variant
use Rattle.command_table.specs.declared.list_commands.ListCommand.{ListCommand}
use Rattle.command_table.specs.declared.list_commands.ListCommand.TheVariants.{Llen, Lpop, Rpop, Lpush, Rpush, Lpushx, Rpushx, Lindex, Lset}
use Rattle.command_table.specs.declared.list_commands.ListCommand.TheVariants.{Lrange, Ltrim, Lrem, Linsert, Lmove, Rpoplpush}
use Rattle.command_table.specs.declared.list_commands.Side.{Side}
use Rattle.command_table.specs.declared.list_commands.Side.TheVariants.{Before, After}
use Rattle.command_table.specs.declared.refusal.Refusal.{Refusal}
use Rattle.command_table.specs.declared.refusal.Refusal.TheVariants.{Syntax}
use Rattle.command_table.specs.KeySpan.{Between}
use Rattle.command_table.specs.CommandRow.{CommandRow, Reading, then_reading, integer_reading}
use Rattle.command_table.specs.Telling.{Telling, These, named}
use Rattle.command_table.specs.Words.{Word, word, is_word}
use Rattle.texts.specs.declared.text_list.End.{End}
use Rattle.texts.specs.declared.text_list.End.TheVariants.{Head, Tail}

abbrev pub list_command_told : ListCommand → Telling
list_command_told (Llen key) = record { name = codes "llen"; keys = These (key ∷ []) }
list_command_told (Lpop key) = record { name = codes "lpop"; keys = These (key ∷ []) }
list_command_told (Rpop key) = record { name = codes "rpop"; keys = These (key ∷ []) }
list_command_told (Lpush key items) = record { name = codes "lpush"; keys = These (key ∷ []) }
list_command_told (Rpush key items) = record { name = codes "rpush"; keys = These (key ∷ []) }
list_command_told (Lpushx key items) = record { name = codes "lpushx"; keys = These (key ∷ []) }
list_command_told (Rpushx key items) = record { name = codes "rpushx"; keys = These (key ∷ []) }
list_command_told (Lindex key place) = record { name = codes "lindex"; keys = These (key ∷ []) }
list_command_told (Lset key place item) = record { name = codes "lset"; keys = These (key ∷ []) }
list_command_told (Lrange key start end) = record { name = codes "lrange"; keys = These (key ∷ []) }
list_command_told (Ltrim key start end) = record { name = codes "ltrim"; keys = These (key ∷ []) }
list_command_told (Lrem key count item) = record { name = codes "lrem"; keys = These (key ∷ []) }
list_command_told (Linsert key side pivot item) = record { name = codes "linsert"; keys = These (key ∷ []) }
list_command_told (Lmove from to taken put) = record { name = codes "lmove"; keys = These (from ∷ to ∷ []) }
list_command_told (Rpoplpush from to) = record { name = codes "rpoplpush"; keys = These (from ∷ to ∷ []) }

abbrev pub list_command_keys : ListCommand → List Word
list_command_keys c = named (list_command_told c).keys

-- the side of the pivot that the word names, BEFORE or AFTER
abbrev pub side_of : Word → Result Side Refusal
side_of w = if is_word (codes "before") w then Ok Before else if is_word (codes "after") w then Ok After else Err Syntax

-- the end of a list that the word names, LEFT or RIGHT
abbrev pub end_of : Word → Result End Refusal
end_of w = if is_word (codes "left") w then Ok Head else if is_word (codes "right") w then Ok Tail else Err Syntax

abbrev pub llen_row : CommandRow
llen_row = record { name = codes "llen"; arity = Exactly 2; keys = Between 1 1; reading = λ words. Ok (variant.List (Llen (word words 0))) }

abbrev pub lpop_row : CommandRow
lpop_row = record { name = codes "lpop"; arity = Exactly 2; keys = Between 1 1; reading = λ words. Ok (variant.List (Lpop (word words 0))) }

abbrev pub rpop_row : CommandRow
rpop_row = record { name = codes "rpop"; arity = Exactly 2; keys = Between 1 1; reading = λ words. Ok (variant.List (Rpop (word words 0))) }

abbrev pub lpush_row : CommandRow
lpush_row =
    record {
      name = codes "lpush";
      arity = AtLeast 3;
      keys = Between 1 1;
      reading =
          λ words. Ok (variant.List (Lpush (word words 0) (drop 1 words)));
    }

abbrev pub rpush_row : CommandRow
rpush_row =
    record {
      name = codes "rpush";
      arity = AtLeast 3;
      keys = Between 1 1;
      reading =
          λ words. Ok (variant.List (Rpush (word words 0) (drop 1 words)));
    }

abbrev pub lpushx_row : CommandRow
lpushx_row =
    record {
      name = codes "lpushx";
      arity = AtLeast 3;
      keys = Between 1 1;
      reading =
          λ words. Ok (variant.List (Lpushx (word words 0) (drop 1 words)));
    }

abbrev pub rpushx_row : CommandRow
rpushx_row =
    record {
      name = codes "rpushx";
      arity = AtLeast 3;
      keys = Between 1 1;
      reading =
          λ words. Ok (variant.List (Rpushx (word words 0) (drop 1 words)));
    }

abbrev pub lindex_row : CommandRow
lindex_row = record {
  name = codes "lindex";
  arity = Exactly 3;
  keys = Between 1 1;
  reading = λ words. integer_reading (word words 1) (λ place. Ok (variant.List (Lindex (word words 0) place)));
}

abbrev pub lset_row : CommandRow
lset_row = record {
  name = codes "lset";
  arity = Exactly 4;
  keys = Between 1 1;
  reading = λ words. integer_reading (word words 1) (λ place. Ok (variant.List (Lset (word words 0) place (word words 2))));
}

abbrev pub lrange_reading : List Word → Reading
lrange_reading words =
    integer_reading (word words 1) (λ start. integer_reading (word words 2) (λ end. Ok (variant.List (Lrange (word words 0) start end))))

abbrev pub lrange_row : CommandRow
lrange_row = record {
  name = codes "lrange";
  arity = Exactly 4;
  keys = Between 1 1;
  reading = lrange_reading;
}

abbrev pub ltrim_reading : List Word → Reading
ltrim_reading words =
    integer_reading (word words 1) (λ start. integer_reading (word words 2) (λ end. Ok (variant.List (Ltrim (word words 0) start end))))

abbrev pub ltrim_row : CommandRow
ltrim_row = record {
  name = codes "ltrim";
  arity = Exactly 4;
  keys = Between 1 1;
  reading = ltrim_reading;
}

abbrev pub lrem_row : CommandRow
lrem_row = record {
  name = codes "lrem";
  arity = Exactly 4;
  keys = Between 1 1;
  reading = λ words. integer_reading (word words 1) (λ count. Ok (variant.List (Lrem (word words 0) count (word words 2))));
}

abbrev pub linsert_reading : List Word → Reading
linsert_reading words =
    then_reading (side_of (word words 1)) (λ side. Ok (variant.List (Linsert (word words 0) side (word words 2) (word words 3))))

abbrev pub linsert_row : CommandRow
linsert_row = record {
  name = codes "linsert";
  arity = Exactly 5;
  keys = Between 1 1;
  reading = linsert_reading;
}

abbrev pub lmove_reading : List Word → Reading
lmove_reading words =
    then_reading (end_of (word words 2))
    (λ taken. then_reading (end_of (word words 3)) (λ put. Ok (variant.List (Lmove (word words 0) (word words 1) taken put))))

abbrev pub lmove_row : CommandRow
lmove_row = record {
  name = codes "lmove";
  arity = Exactly 5;
  keys = Between 1 2;
  reading = lmove_reading;
}

abbrev pub rpoplpush_row : CommandRow
rpoplpush_row = record {
  name = codes "rpoplpush";
  arity = Exactly 3;
  keys = Between 1 2;
  reading = λ words. Ok (variant.List (Rpoplpush (word words 0) (word words 1)));
}

abbrev pub list_rows : List CommandRow
list_rows =
    lpush_row ∷ rpush_row ∷ lpop_row ∷ rpop_row ∷ lrange_row ∷ llen_row ∷ lpushx_row ∷ rpushx_row ∷ lindex_row ∷ lset_row
    ∷ ltrim_row ∷ lrem_row ∷ linsert_row ∷ lmove_row ∷ rpoplpush_row ∷ []
