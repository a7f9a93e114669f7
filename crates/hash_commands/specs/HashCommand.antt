-- What the commands on hashes do, by the Redis command reference. A hash is the list of its pairs of a field and its
-- value, in order of insertion; a key that is missing counts as a hash with no pairs.
use Rattle.std.specs.Prelude.{◌≡◌, ℕ, ◌-◌, ◌<◌, ℤ, List, [], map, length, codes, Option, Some, None, Result, Ok, Err, IsSome, IsOk, is_some}
use Rattle.std.specs.Prelude.{if◌then◌else◌, true, false}
use Rattle.std.specs.FinMap.{get}
use Rattle.std.specs.Fmt.{signed_decimal}
use Rattle.command_cases.specs.Case.{Case, Step, at_key}
use Rattle.command_cases.specs.Replies.{ok, count, truth, wrong_type, would_overflow}
use Rattle.command_table.specs.declared.hash_commands.HashCommand.{HashCommand}
use Rattle.command_table.specs.declared.hash_commands.HashCommand.TheVariants.{Hlen, Hget, Hexists, Hstrlen, Hkeys, Hvals, Hgetall, Hmget}
use Rattle.command_table.specs.declared.hash_commands.HashCommand.TheVariants.{Hdel, Hsetnx, Hset, Hmset, Hincrby}
use Rattle.integers.specs.Sum.{stored_sum}
use Rattle.integers.specs.declared.sum.SumFault.{SumFault}
use Rattle.integers.specs.declared.sum.SumFault.TheVariants.{NotInteger, Overflow}
use Rattle.keyspace.specs.Map.{Map}
use Rattle.resp.specs.Content.{Content, BulkText, ErrorLine, Number, Several, contents, text_or_null}
use Rattle.texts.specs.Texts.{Bytes, by_turns}
use Rattle.values.specs.HashValue.{field_value, with_field, with_fields, without_fields}
use Rattle.values.specs.Value.{hash_value}
use Rattle.values.specs.declared.Value.{Value}
use Rattle.values.specs.declared.Value.TheVariants as kind

-- the pairs of a hash
abbrev pub HashPairs : Type 0
HashPairs = List (Bytes × Bytes)

-- a command that wants a hash: what it does is by the pairs, and by what the key has, which it may keep. A value of
-- another kind stays, and the answer is that it is of the wrong kind
abbrev pub at_hash : (HashPairs → Option Value → Option Value × Content) → Step
at_hash step None = step [] None
at_hash step (Some (kind.Hash pairs)) = step pairs (Some (kind.Hash pairs))
at_hash step (Some (kind.Str text)) = (Some (kind.Str text), wrong_type)
at_hash step (Some (kind.List items)) = (Some (kind.List items), wrong_type)
at_hash step (Some (kind.Set members)) = (Some (kind.Set members), wrong_type)

-- a command that looks at a hash: the key keeps what it has, and the answer is by the pairs
abbrev pub looks_at_hash : (HashPairs → Content) → Step
looks_at_hash answer = at_hash (λ pairs before. (before, answer pairs))

-- a command that leaves other pairs; where none are left the key goes
abbrev pub changes_hash : (HashPairs → HashPairs × Content) → Step
changes_hash change = at_hash (λ pairs before. (hash_value (change pairs).0, (change pairs).1))

-- the pairs of a hash that may be missing
abbrev pub found_pairs : Option HashPairs → HashPairs
found_pairs None = []
found_pairs (Some pairs) = pairs

abbrev pub length_or_zero : Option Bytes → ℕ
length_or_zero None = 0
length_or_zero (Some text) = length text

-- several texts
abbrev pub bulk_texts : List Bytes → Content
bulk_texts texts = Several (contents (map BulkText texts))

-- HLEN: how many fields there are
abbrev pub hlen_answer : HashPairs → Content
hlen_answer pairs = count (length pairs)

-- HGET: the value of the field, or null
abbrev pub hget_answer : Bytes → HashPairs → Content
hget_answer field pairs = text_or_null (field_value pairs field)

-- HEXISTS: whether the field is there
abbrev pub hexists_answer : Bytes → HashPairs → Content
hexists_answer field pairs = truth (is_some (field_value pairs field))

-- HSTRLEN: the length of the field's value, 0 where it is missing
abbrev pub hstrlen_answer : Bytes → HashPairs → Content
hstrlen_answer field pairs = count (length_or_zero (field_value pairs field))

-- HKEYS: the fields, in order
abbrev pub hkeys_answer : HashPairs → Content
hkeys_answer pairs = bulk_texts (map (λ p. p.0) pairs)

-- HVALS: the values, in order
abbrev pub hvals_answer : HashPairs → Content
hvals_answer pairs = bulk_texts (map (λ p. p.1) pairs)

-- HGETALL: the fields and their values by turns, in order
abbrev pub hgetall_answer : HashPairs → Content
hgetall_answer pairs = bulk_texts (by_turns pairs)

-- HMGET: the value of each of these fields, or null, in order of the words
abbrev pub hmget_answer : List Bytes → HashPairs → Content
hmget_answer fields pairs = Several (contents (map (λ field. hget_answer field pairs) fields))

-- HDEL: the pairs without these fields, and how many were removed
abbrev pub hdel_change : List Bytes → HashPairs → HashPairs × Content
hdel_change fields pairs = (without_fields pairs fields, count (length pairs - length (without_fields pairs fields)))

-- HSETNX: the value at the field, where the field isn't there, and whether it was set
abbrev pub hsetnx_step : Bytes → Bytes → Step
hsetnx_step field value = at_hash (λ pairs before.
    if is_some (field_value pairs field) then (before, truth false) else (hash_value (with_field pairs field value), truth true))

-- HSET and HMSET: the pairs with these, one after another, and an answer by how many fields are new
abbrev pub set_change : (ℕ → Content) → HashPairs → HashPairs → HashPairs × Content
set_change answer more pairs = (with_fields pairs more, answer (length (with_fields pairs more) - length pairs))

-- HSET answers how many fields are new, HMSET that it is done
abbrev pub hset_step : HashPairs → Step
hset_step more = changes_hash (set_change count more)

abbrev pub hmset_step : HashPairs → Step
hmset_step more = changes_hash (set_change (λ added. ok) more)

-- why a field has no number
abbrev pub no_number : SumFault → Content
no_number NotInteger = ErrorLine (codes "ERR hash value is not an integer")
no_number Overflow = would_overflow

-- the text of the sum at the field, and the sum; or what the key has, and why there is no sum
abbrev pub with_sum : Bytes → HashPairs → Option Value → Result ℤ SumFault → Option Value × Content
with_sum field pairs before (Ok sum) = (hash_value (with_field pairs field (signed_decimal sum)), Number sum)
with_sum field pairs before (Err fault) = (before, no_number fault)

-- HINCRBY: the number that the field's value says and another one, a missing field counting as 0
abbrev pub hincrby_step : Bytes → ℤ → Step
hincrby_step field by = at_hash (λ pairs before. with_sum field pairs before (stored_sum (field_value pairs field) by))

abbrev pub hash_command_case : HashCommand → Case
hash_command_case (Hlen key) = at_key key (looks_at_hash hlen_answer)
hash_command_case (Hget key field) = at_key key (looks_at_hash (hget_answer field))
hash_command_case (Hexists key field) = at_key key (looks_at_hash (hexists_answer field))
hash_command_case (Hstrlen key field) = at_key key (looks_at_hash (hstrlen_answer field))
hash_command_case (Hkeys key) = at_key key (looks_at_hash hkeys_answer)
hash_command_case (Hvals key) = at_key key (looks_at_hash hvals_answer)
hash_command_case (Hgetall key) = at_key key (looks_at_hash hgetall_answer)
hash_command_case (Hmget key fields) = at_key key (looks_at_hash (hmget_answer fields))
hash_command_case (Hdel key fields) = at_key key (changes_hash (hdel_change fields))
hash_command_case (Hsetnx key field value) = at_key key (hsetnx_step field value)
hash_command_case (Hset key pairs) = at_key key (hset_step pairs)
hash_command_case (Hmset key pairs) = at_key key (hmset_step pairs)
hash_command_case (Hincrby key field by) = at_key key (hincrby_step field by)

-- the pairs at a key, where it is missing or holds a hash
abbrev pub pairs_there : Option Value → Option HashPairs
pairs_there None = Some []
pairs_there (Some (kind.Hash pairs)) = Some pairs
pairs_there (Some (kind.Str text)) = None
pairs_there (Some (kind.List items)) = None
pairs_there (Some (kind.Set members)) = None

-- the pairs at a key; none where it holds a value of another kind
abbrev pub some_pairs : Option Value → HashPairs
some_pairs None = []
some_pairs (Some (kind.Hash pairs)) = pairs
some_pairs (Some (kind.Str text)) = []
some_pairs (Some (kind.List items)) = []
some_pairs (Some (kind.Set members)) = []

-- where a command on hashes takes memory: for the copies of the texts that it answers, for an array of some replies,
-- for a field that isn't there, for the text of a sum
abbrev pub HashCommandTakesMemory : HashCommand → Map → Type 0
HashCommandTakesMemory (Hlen key) m = ⊥
HashCommandTakesMemory (Hget key field) m = IsSome (field_value (some_pairs (get m key)) field)
HashCommandTakesMemory (Hexists key field) m = ⊥
HashCommandTakesMemory (Hstrlen key field) m = ⊥
HashCommandTakesMemory (Hkeys key) m = 0 < length (some_pairs (get m key))
HashCommandTakesMemory (Hvals key) m = 0 < length (some_pairs (get m key))
HashCommandTakesMemory (Hgetall key) m = 0 < length (some_pairs (get m key))
HashCommandTakesMemory (Hmget key fields) m = IsSome (pairs_there (get m key))
HashCommandTakesMemory (Hdel key fields) m = ⊥
HashCommandTakesMemory (Hsetnx key field value) m = IsSome (pairs_there (get m key)) × (field_value (some_pairs (get m key)) field ≡ None)
HashCommandTakesMemory (Hset key pairs) m = IsSome (pairs_there (get m key))
HashCommandTakesMemory (Hmset key pairs) m = IsSome (pairs_there (get m key))
HashCommandTakesMemory (Hincrby key field by) m =
    IsSome (pairs_there (get m key)) × IsOk (stored_sum (field_value (some_pairs (get m key)) field) by)
