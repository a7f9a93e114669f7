-- That each command on hashes answers short, but for those that answer a value or an array.
use Rattle.std.proofs.Common.{◌≡◌, ℤ, true, false, if◌then◌else◌, List, Option, Some, None, Result, Ok, Err, is_some, refl, arith}
use Rattle.std.specs.FinMap.{get}
use Rattle.command_cases.proofs.Short.{short-ok, short-truth, short-wrong_type, short-would_overflow, short-chosen}
use Rattle.command_cases.specs.Replies.{ok, count, truth}
use Rattle.command_table.specs.declared.hash_commands.HashCommand.{HashCommand}
use Rattle.command_table.specs.declared.hash_commands.HashCommand.TheVariants.{Hlen, Hget, Hexists, Hstrlen, Hkeys, Hvals, Hgetall, Hmget}
use Rattle.command_table.specs.declared.hash_commands.HashCommand.TheVariants.{Hdel, Hsetnx, Hset, Hmset, Hincrby}
use Rattle.hash_commands.specs.HashCommand.{HashPairs, at_hash, looks_at_hash, changes_hash, hlen_answer, hexists_answer}
use Rattle.hash_commands.specs.HashCommand.{hstrlen_answer, hdel_change, hsetnx_step, set_change, with_sum, hincrby_step, hash_command_case}
use Rattle.integers.specs.Sum.{stored_sum}
use Rattle.integers.specs.declared.sum.SumFault.{SumFault}
use Rattle.integers.specs.declared.sum.SumFault.TheVariants.{NotInteger, Overflow}
use Rattle.keyspace.specs.Map.{Map}
use Rattle.resp.specs.Content.{Content}
use Rattle.resp.specs.LongText.{IsShort}
use Rattle.texts.specs.Texts.{Bytes}
use Rattle.values.specs.HashValue.{field_value, with_field}
use Rattle.values.specs.Value.{hash_value}
use Rattle.values.specs.declared.Value.{Value}
use Rattle.values.specs.declared.Value.TheVariants as kind

short-at_hash : (step : HashPairs → Option Value → Option Value × Content)
    → ((pairs : HashPairs) (before : Option Value) → IsShort (step pairs before).1) → (there : Option Value)
    → IsShort (at_hash step there).1
short-at_hash step short None = short _ None
short-at_hash step short (Some (kind.Hash pairs)) = short pairs _
short-at_hash step short (Some (kind.Str text)) = short-wrong_type
short-at_hash step short (Some (kind.List items)) = short-wrong_type
short-at_hash step short (Some (kind.Set members)) = short-wrong_type

short-looks : (answer : HashPairs → Content) → ((pairs : HashPairs) → IsShort (answer pairs)) → (there : Option Value)
    → IsShort (looks_at_hash answer there).1
short-looks answer short = short-at_hash (λ pairs before. (before, answer pairs)) (λ pairs before. short pairs)

short-changes : (change : HashPairs → HashPairs × Content) → ((pairs : HashPairs) → IsShort (change pairs).1) → (there : Option Value)
    → IsShort (changes_hash change there).1
short-changes change short = short-at_hash (λ pairs before. (hash_value (change pairs).0, (change pairs).1)) (λ pairs before. short pairs)

short-setnx : (field value : Bytes) (there : Option Value) → IsShort (hsetnx_step field value there).1
short-setnx field value =
    short-at_hash (λ pairs before. if is_some (field_value pairs field) then (before, truth false)
    else (hash_value (with_field pairs field value), truth true))
    (λ pairs before. short-chosen (is_some (field_value pairs field)) _ _ tt tt)

short-sum : (field : Bytes) (pairs : HashPairs) (before : Option Value) (sum : Result ℤ SumFault)
    → IsShort (with_sum field pairs before sum).1
short-sum field pairs before (Ok sum) = tt
short-sum field pairs before (Err NotInteger) = omega arith
short-sum field pairs before (Err Overflow) = short-would_overflow

short-incrby : (field : Bytes) (by : ℤ) (there : Option Value) → IsShort (hincrby_step field by there).1
short-incrby field by =
    short-at_hash (λ pairs before. with_sum field pairs before (stored_sum (field_value pairs field) by))
    (λ pairs before. short-sum field pairs before (stored_sum (field_value pairs field) by))

-- every command that isn't one of these five
pub answers_short : (c : HashCommand) (m : Map) → ((key field : Bytes) → c ≡ Hget key field → ⊥)
    → ((key : Bytes) (fields : List Bytes) → c ≡ Hmget key fields → ⊥) → ((key : Bytes) → c ≡ Hkeys key → ⊥)
    → ((key : Bytes) → c ≡ Hvals key → ⊥) → ((key : Bytes) → c ≡ Hgetall key → ⊥) → IsShort (hash_command_case c m).1
answers_short (Hget key field) m hget _ _ _ _ = absurd (hget key field refl)
answers_short (Hmget key fields) m _ hmget _ _ _ = absurd (hmget key fields refl)
answers_short (Hkeys key) m _ _ hkeys _ _ = absurd (hkeys key refl)
answers_short (Hvals key) m _ _ _ hvals _ = absurd (hvals key refl)
answers_short (Hgetall key) m _ _ _ _ hgetall = absurd (hgetall key refl)
answers_short (Hlen key) m _ _ _ _ _ = short-looks hlen_answer (λ pairs. tt) (get m key)
answers_short (Hexists key field) m _ _ _ _ _ =
    short-looks (hexists_answer field) (λ pairs. short-truth (is_some (field_value pairs field))) (get m key)
answers_short (Hstrlen key field) m _ _ _ _ _ = short-looks (hstrlen_answer field) (λ pairs. tt) (get m key)
answers_short (Hdel key fields) m _ _ _ _ _ = short-changes (hdel_change fields) (λ pairs. tt) (get m key)
answers_short (Hsetnx key field value) m _ _ _ _ _ = short-setnx field value (get m key)
answers_short (Hset key more) m _ _ _ _ _ = short-changes (set_change count more) (λ pairs. tt) (get m key)
answers_short (Hmset key more) m _ _ _ _ _ = short-changes (set_change (λ added. ok) more) (λ pairs. short-ok) (get m key)
answers_short (Hincrby key field by) m _ _ _ _ _ = short-incrby field by (get m key)
