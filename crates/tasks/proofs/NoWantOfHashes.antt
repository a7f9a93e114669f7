-- No command on hashes says that there was no memory.
use Rattle.std.proofs.Common.{ℤ, true, false, if◌then◌else◌, [], Option, Some, None, Result, Ok, Err, refl, is_some}
use Rattle.std.specs.FinMap.{get}
use Rattle.command_cases.specs.Replies.{ok, count, truth}
use Rattle.command_table.specs.declared.hash_commands.HashCommand.{HashCommand}
use Rattle.command_table.specs.declared.hash_commands.HashCommand.TheVariants.{Hlen, Hget, Hexists, Hstrlen, Hkeys, Hvals, Hgetall, Hmget}
use Rattle.command_table.specs.declared.hash_commands.HashCommand.TheVariants.{Hdel, Hsetnx, Hset, Hmset, Hincrby}
use Rattle.hash_commands.specs.HashCommand.{HashPairs, at_hash, hlen_answer, hget_answer, hexists_answer, hstrlen_answer}
use Rattle.hash_commands.specs.HashCommand.{hkeys_answer, hvals_answer, hgetall_answer, hmget_answer, hdel_change, set_change, with_sum}
use Rattle.hash_commands.specs.HashCommand.{looks_at_hash, changes_hash, hsetnx_step, hincrby_step, hash_command_case}
use Rattle.integers.specs.Sum.{stored_sum}
use Rattle.integers.specs.declared.sum.SumFault.{SumFault}
use Rattle.integers.specs.declared.sum.SumFault.TheVariants.{NotInteger, Overflow}
use Rattle.keyspace.specs.Map.{Map}
use Rattle.resp.specs.Content.{Content}
use Rattle.texts.specs.Texts.{Bytes}
use Rattle.values.specs.HashValue.{field_value, with_field}
use Rattle.values.specs.Value.{hash_value}
use Rattle.values.specs.declared.Value.{Value}
use Rattle.values.specs.declared.Value.TheVariants as kind
use Rattle.tasks.proofs.NoWant.{IsNoWant, no_want-truth, no_want-chosen, no_want-text}

at_hash_none : (step : HashPairs → Option Value → Option Value × Content)
    → ((pairs : HashPairs) (before : Option Value) → IsNoWant (step pairs before).1)
    → (there : Option Value) → IsNoWant (at_hash step there).1
at_hash_none step none None = none [] None
at_hash_none step none (Some (kind.Hash pairs)) = none pairs (Some (kind.Hash pairs))
at_hash_none step none (Some (kind.Str text)) = refl
at_hash_none step none (Some (kind.List items)) = refl
at_hash_none step none (Some (kind.Set members)) = refl

looks_none : (answer : HashPairs → Content) → ((pairs : HashPairs) → IsNoWant (answer pairs)) → (there : Option Value)
    → IsNoWant (looks_at_hash answer there).1
looks_none answer none there = at_hash_none (λ pairs before. (before, answer pairs)) (λ pairs before. none pairs) there

changes_none : (change : HashPairs → HashPairs × Content) → ((pairs : HashPairs) → IsNoWant (change pairs).1) → (there : Option Value)
    → IsNoWant (changes_hash change there).1
changes_none change none there =
    at_hash_none (λ pairs before. (hash_value (change pairs).0, (change pairs).1)) (λ pairs before. none pairs) there

setnx_none : (field value : Bytes) (there : Option Value) → IsNoWant (hsetnx_step field value there).1
setnx_none field value there =
    at_hash_none (λ pairs before.
    if is_some (field_value pairs field) then (before, truth false) else (hash_value (with_field pairs field value), truth true))
    (λ pairs before. no_want-chosen (is_some (field_value pairs field)) (before, truth false)
    (hash_value (with_field pairs field value), truth true) refl refl) there

sum_none : (field : Bytes) (pairs : HashPairs) (before : Option Value) (sum : Result ℤ SumFault)
    → IsNoWant (with_sum field pairs before sum).1
sum_none field pairs before (Ok sum) = refl
sum_none field pairs before (Err NotInteger) = refl
sum_none field pairs before (Err Overflow) = refl

incrby_none : (field : Bytes) (by : ℤ) (there : Option Value) → IsNoWant (hincrby_step field by there).1
incrby_none field by there =
    at_hash_none (λ pairs before. with_sum field pairs before (stored_sum (field_value pairs field) by))
    (λ pairs before. sum_none field pairs before (stored_sum (field_value pairs field) by)) there

pub no_want-hash_command : (c : HashCommand) (m : Map) → IsNoWant (hash_command_case c m).1
no_want-hash_command (Hlen key) m = looks_none hlen_answer (λ pairs. refl) (get m key)
no_want-hash_command (Hget key field) m = looks_none (hget_answer field) (λ pairs. no_want-text (field_value pairs field)) (get m key)
no_want-hash_command (Hexists key field) m =
    looks_none (hexists_answer field) (λ pairs. no_want-truth (is_some (field_value pairs field))) (get m key)
no_want-hash_command (Hstrlen key field) m = looks_none (hstrlen_answer field) (λ pairs. refl) (get m key)
no_want-hash_command (Hkeys key) m = looks_none hkeys_answer (λ pairs. refl) (get m key)
no_want-hash_command (Hvals key) m = looks_none hvals_answer (λ pairs. refl) (get m key)
no_want-hash_command (Hgetall key) m = looks_none hgetall_answer (λ pairs. refl) (get m key)
no_want-hash_command (Hmget key fields) m = looks_none (hmget_answer fields) (λ pairs. refl) (get m key)
no_want-hash_command (Hdel key fields) m = changes_none (hdel_change fields) (λ pairs. refl) (get m key)
no_want-hash_command (Hsetnx key field value) m = setnx_none field value (get m key)
no_want-hash_command (Hset key pairs) m = changes_none (set_change count pairs) (λ there. refl) (get m key)
no_want-hash_command (Hmset key pairs) m = changes_none (set_change (λ added. ok) pairs) (λ there. refl) (get m key)
no_want-hash_command (Hincrby key field by) m = incrby_none field by (get m key)
