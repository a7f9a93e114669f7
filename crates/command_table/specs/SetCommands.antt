-- The commands on sets: what is told of each, and their rows, with what their words say.
use Rattle.std.specs.Prelude.{List, [], ◌∷◌, drop, Ok, codes}
use Rattle.command_table.specs.declared.arity.Arity.TheVariants.{Exactly, AtLeast}
use Rattle.command_table.specs.declared.command.Command.TheVariants as variant
use Rattle.command_table.specs.declared.set_commands.SetCommand.{SetCommand}
use Rattle.command_table.specs.declared.set_commands.SetCommand.TheVariants.{Sadd, Srem, Sismember, Smismember, Scard, Smembers, Smove}
use Rattle.command_table.specs.declared.set_commands.SetCommand.TheVariants.{Sinter, Sunion, Sdiff, Sinterstore, Sunionstore, Sdiffstore}
use Rattle.command_table.specs.KeySpan.{Between, ToLastWord}
use Rattle.command_table.specs.CommandRow.{CommandRow}
use Rattle.command_table.specs.Telling.{Telling, These, named}
use Rattle.command_table.specs.Words.{Word, word}

abbrev pub set_command_told : SetCommand → Telling
set_command_told (Sadd key members) = record { name = codes "sadd"; keys = These (key ∷ []) }
set_command_told (Srem key members) = record { name = codes "srem"; keys = These (key ∷ []) }
set_command_told (Sismember key member) = record { name = codes "sismember"; keys = These (key ∷ []) }
set_command_told (Smismember key members) = record { name = codes "smismember"; keys = These (key ∷ []) }
set_command_told (Scard key) = record { name = codes "scard"; keys = These (key ∷ []) }
set_command_told (Smembers key) = record { name = codes "smembers"; keys = These (key ∷ []) }
set_command_told (Smove from to member) = record { name = codes "smove"; keys = These (from ∷ to ∷ []) }
set_command_told (Sinter keys) = record { name = codes "sinter"; keys = These keys }
set_command_told (Sunion keys) = record { name = codes "sunion"; keys = These keys }
set_command_told (Sdiff keys) = record { name = codes "sdiff"; keys = These keys }
set_command_told (Sinterstore target sources) = record { name = codes "sinterstore"; keys = These (target ∷ sources) }
set_command_told (Sunionstore target sources) = record { name = codes "sunionstore"; keys = These (target ∷ sources) }
set_command_told (Sdiffstore target sources) = record { name = codes "sdiffstore"; keys = These (target ∷ sources) }

abbrev pub set_command_keys : SetCommand → List Word
set_command_keys c = named (set_command_told c).keys

-- the words after the key are members
abbrev pub sadd_row : CommandRow
sadd_row = record {
  name = codes "sadd";
  arity = AtLeast 3;
  keys = Between 1 1;
  reading = λ words. Ok (variant.Set (Sadd (word words 0) (drop 1 words)));
}

abbrev pub srem_row : CommandRow
srem_row = record {
  name = codes "srem";
  arity = AtLeast 3;
  keys = Between 1 1;
  reading = λ words. Ok (variant.Set (Srem (word words 0) (drop 1 words)));
}

abbrev pub sismember_row : CommandRow
sismember_row = record {
  name = codes "sismember";
  arity = Exactly 3;
  keys = Between 1 1;
  reading = λ words. Ok (variant.Set (Sismember (word words 0) (word words 1)));
}

abbrev pub smismember_row : CommandRow
smismember_row = record {
  name = codes "smismember";
  arity = AtLeast 3;
  keys = Between 1 1;
  reading = λ words. Ok (variant.Set (Smismember (word words 0) (drop 1 words)));
}

abbrev pub scard_row : CommandRow
scard_row = record {
  name = codes "scard";
  arity = Exactly 2;
  keys = Between 1 1;
  reading = λ words. Ok (variant.Set (Scard (word words 0)));
}

abbrev pub smembers_row : CommandRow
smembers_row = record {
  name = codes "smembers";
  arity = Exactly 2;
  keys = Between 1 1;
  reading = λ words. Ok (variant.Set (Smembers (word words 0)));
}

abbrev pub smove_row : CommandRow
smove_row = record {
  name = codes "smove";
  arity = Exactly 4;
  keys = Between 1 2;
  reading = λ words. Ok (variant.Set (Smove (word words 0) (word words 1) (word words 2)));
}

-- each word is a key
abbrev pub sinter_row : CommandRow
sinter_row = record { name = codes "sinter"; arity = AtLeast 2; keys = ToLastWord 1 1; reading = λ words. Ok (variant.Set (Sinter words)) }

abbrev pub sunion_row : CommandRow
sunion_row = record { name = codes "sunion"; arity = AtLeast 2; keys = ToLastWord 1 1; reading = λ words. Ok (variant.Set (Sunion words)) }

abbrev pub sdiff_row : CommandRow
sdiff_row = record { name = codes "sdiff"; arity = AtLeast 2; keys = ToLastWord 1 1; reading = λ words. Ok (variant.Set (Sdiff words)) }

-- the first word is the target, the others are the sources
abbrev pub sinterstore_row : CommandRow
sinterstore_row = record {
  name = codes "sinterstore";
  arity = AtLeast 3;
  keys = ToLastWord 1 1;
  reading = λ words. Ok (variant.Set (Sinterstore (word words 0) (drop 1 words)));
}

abbrev pub sunionstore_row : CommandRow
sunionstore_row = record {
  name = codes "sunionstore";
  arity = AtLeast 3;
  keys = ToLastWord 1 1;
  reading = λ words. Ok (variant.Set (Sunionstore (word words 0) (drop 1 words)));
}

abbrev pub sdiffstore_row : CommandRow
sdiffstore_row = record {
  name = codes "sdiffstore";
  arity = AtLeast 3;
  keys = ToLastWord 1 1;
  reading = λ words. Ok (variant.Set (Sdiffstore (word words 0) (drop 1 words)));
}

abbrev pub set_rows : List CommandRow
set_rows =
    sadd_row ∷ srem_row ∷ sismember_row ∷ smismember_row ∷ scard_row ∷ smembers_row ∷ smove_row ∷ sinter_row ∷ sunion_row ∷ sdiff_row
    ∷ sinterstore_row ∷ sunionstore_row ∷ sdiffstore_row ∷ []
