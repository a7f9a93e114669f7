-- The commands on hashes: what is told of each, and their rows, with what their words say.
use Rattle.std.specs.Prelude.{◌%◌, ◌==◌, List, [], ◌∷◌, drop, length, Option, Some, None, Ok, Err, if◌then◌else◌, codes}
use Rattle.command_table.specs.declared.arity.Arity.TheVariants.{Exactly, AtLeast}
use Rattle.command_table.specs.declared.command.Command.TheVariants.{Hash}
use Rattle.command_table.specs.declared.hash_commands.HashCommand.{HashCommand}
use Rattle.command_table.specs.declared.hash_commands.HashCommand.TheVariants.{Hlen, Hget, Hexists, Hstrlen, Hkeys, Hvals, Hgetall, Hmget}
use Rattle.command_table.specs.declared.hash_commands.HashCommand.TheVariants.{Hdel, Hsetnx, Hset, Hmset, Hincrby}
use Rattle.command_table.specs.declared.refusal.Refusal.TheVariants.{Arity}
use Rattle.command_table.specs.KeySpan.{Between}
use Rattle.command_table.specs.CommandRow.{CommandRow, Reading, integer_reading}
use Rattle.command_table.specs.Telling.{Telling, These, named}
use Rattle.command_table.specs.Words.{Word, word, pairs_of}

abbrev pub hash_command_told : HashCommand → Telling
hash_command_told (Hlen key) = record { name = codes "hlen"; keys = These (key ∷ []) }
hash_command_told (Hget key field) = record { name = codes "hget"; keys = These (key ∷ []) }
hash_command_told (Hexists key field) = record { name = codes "hexists"; keys = These (key ∷ []) }
hash_command_told (Hstrlen key field) = record { name = codes "hstrlen"; keys = These (key ∷ []) }
hash_command_told (Hkeys key) = record { name = codes "hkeys"; keys = These (key ∷ []) }
hash_command_told (Hvals key) = record { name = codes "hvals"; keys = These (key ∷ []) }
hash_command_told (Hgetall key) = record { name = codes "hgetall"; keys = These (key ∷ []) }
hash_command_told (Hmget key fields) = record { name = codes "hmget"; keys = These (key ∷ []) }
hash_command_told (Hdel key fields) = record { name = codes "hdel"; keys = These (key ∷ []) }
hash_command_told (Hsetnx key field value) = record { name = codes "hsetnx"; keys = These (key ∷ []) }
hash_command_told (Hset key pairs) = record { name = codes "hset"; keys = These (key ∷ []) }
hash_command_told (Hmset key pairs) = record { name = codes "hmset"; keys = These (key ∷ []) }
hash_command_told (Hincrby key field by) = record { name = codes "hincrby"; keys = These (key ∷ []) }

abbrev pub hash_command_keys : HashCommand → List Word
hash_command_keys c = named (hash_command_told c).keys

abbrev pub hlen_row : CommandRow
hlen_row = record { name = codes "hlen"; arity = Exactly 2; keys = Between 1 1; reading = λ words. Ok (Hash (Hlen (word words 0))) }

abbrev pub hget_row : CommandRow
hget_row = record {
  name = codes "hget";
  arity = Exactly 3;
  keys = Between 1 1;
  reading =
      λ words. Ok (Hash (Hget (word words 0) (word words 1)));
}

abbrev pub hexists_row : CommandRow
hexists_row = record {
  name = codes "hexists";
  arity = Exactly 3;
  keys = Between 1 1;
  reading =
      λ words. Ok (Hash (Hexists (word words 0) (word words 1)));
}

abbrev pub hstrlen_row : CommandRow
hstrlen_row = record {
  name = codes "hstrlen";
  arity = Exactly 3;
  keys = Between 1 1;
  reading =
      λ words. Ok (Hash (Hstrlen (word words 0) (word words 1)));
}

abbrev pub hkeys_row : CommandRow
hkeys_row = record { name = codes "hkeys"; arity = Exactly 2; keys = Between 1 1; reading = λ words. Ok (Hash (Hkeys (word words 0))) }

abbrev pub hvals_row : CommandRow
hvals_row = record { name = codes "hvals"; arity = Exactly 2; keys = Between 1 1; reading = λ words. Ok (Hash (Hvals (word words 0))) }

abbrev pub hgetall_row : CommandRow
hgetall_row = record {
  name = codes "hgetall";
  arity = Exactly 2;
  keys = Between 1 1;
  reading =
      λ words. Ok (Hash (Hgetall (word words 0)));
}

-- the words after the key are fields
abbrev pub hmget_row : CommandRow
hmget_row = record {
  name = codes "hmget";
  arity = AtLeast 3;
  keys = Between 1 1;
  reading =
      λ words. Ok (Hash (Hmget (word words 0) (drop 1 words)));
}

abbrev pub hdel_row : CommandRow
hdel_row = record {
  name = codes "hdel";
  arity = AtLeast 3;
  keys = Between 1 1;
  reading =
      λ words. Ok (Hash (Hdel (word words 0) (drop 1 words)));
}

abbrev pub hsetnx_row : CommandRow
hsetnx_row = record {
  name = codes "hsetnx";
  arity = Exactly 4;
  keys = Between 1 1;
  reading =
      λ words. Ok (Hash (Hsetnx (word words 0) (word words 1) (word words 2)));
}

-- the words two by two, where none is left over
abbrev pub whole_pairs : List Word → Option (List (Word × Word))
whole_pairs words = if length words % 2 == 0 then Some (pairs_of words) else None

-- what a command says of its pairs; an odd number of words is a wrong one
abbrev pub with_pairs : Word → (List (Word × Word) → HashCommand) → Option (List (Word × Word)) → Reading
with_pairs name make (Some pairs) = Ok (Hash (make pairs))
with_pairs name make None = Err (Arity name)

-- the words after the key are fields and their values by turns
abbrev pub hset_row : CommandRow
hset_row = record {
  name = codes "hset";
  arity = AtLeast 4;
  keys = Between 1 1;
  reading =
      λ words. with_pairs (codes "hset") (Hset (word words 0)) (whole_pairs (drop 1 words));
}

abbrev pub hmset_row : CommandRow
hmset_row = record {
  name = codes "hmset";
  arity = AtLeast 4;
  keys = Between 1 1;
  reading =
      λ words. with_pairs (codes "hmset") (Hmset (word words 0)) (whole_pairs (drop 1 words));
}

abbrev pub hincrby_reading : List Word → Reading
hincrby_reading words = integer_reading (word words 2) (λ by. Ok (Hash (Hincrby (word words 0) (word words 1) by)))

abbrev pub hincrby_row : CommandRow
hincrby_row = record { name = codes "hincrby"; arity = Exactly 4; keys = Between 1 1; reading = hincrby_reading }

abbrev pub hash_rows : List CommandRow
hash_rows =
    hset_row ∷ hget_row ∷ hmget_row ∷ hgetall_row ∷ hdel_row ∷ hincrby_row ∷ hlen_row ∷ hexists_row ∷ hstrlen_row ∷ hkeys_row
    ∷ hvals_row ∷ hsetnx_row ∷ hmset_row ∷ []
