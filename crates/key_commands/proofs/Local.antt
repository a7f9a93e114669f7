-- That each command on keys looks at its own keys alone.
use Rattle.std.proofs.Common.{◌≡◌, List, Bool, true, false, cond, not, Option, None, is_some, refl, sym, ap, ◌∙◌}
use Rattle.std.specs.FinMap.{get, len}
use Rattle.std.specs.List.{count_by}
use Rattle.std.specs.Str.{bytes_eq}
use Rattle.command_cases.proofs.Local.{local-at_key}
use Rattle.command_cases.proofs.Shapes.{local-at_each, local-at_two}
use Rattle.command_cases.specs.Case.{IsLocal}
use Rattle.command_cases.specs.Replies.{count}
use Rattle.command_table.specs.KeyCommands.{key_command_told, key_command_keys}
use Rattle.command_table.specs.Telling.{is_all}
use Rattle.command_table.specs.declared.key_commands.KeyCommand.{KeyCommand}
use Rattle.command_table.specs.declared.key_commands.KeyCommand.TheVariants.{Del, Unlink, Exists, TypeOf, Rename, Renamenx, Dbsize}
use Rattle.command_table.specs.declared.key_commands.KeyCommand.TheVariants.{Flushall}
use Rattle.key_commands.specs.KeyCommand.{del_case, type_step, rename_step, renamenx_step, key_command_case}
use Rattle.keyspace.proofs.Gets.{same, get-retain_keys}
use Rattle.keyspace.proofs.Parts.{get-restrict, get-put_back}
use Rattle.keyspace.specs.Map.{Map, among, restrict, without, put_back}
use Rattle.texts.specs.Texts.{Bytes}
use Rattle.values.specs.declared.Value.{Value}

left_out : (b : Bool) (o p : Option Value) → cond b (cond (not b) o None) p ≡ cond (not b) p None
left_out true o p = refl
left_out false o p = refl

cut_twice : (b : Bool) (o : Option Value) → cond b (cond b o None) None ≡ cond b o None
cut_twice true o = refl
cut_twice false o = refl

put_back-without : (m : Map) (keys : List Bytes) → put_back m keys (without (restrict m keys) keys) ≡ without m keys
put_back-without m keys =
    same (put_back m keys (without (restrict m keys) keys)) (without m keys) (λ q.
    get-put_back m keys (without (restrict m keys) keys) q
    ∙ ap (λ o. cond (among keys q) o (get m q)) (get-retain_keys (restrict m keys) (λ key. not (among keys key)) q)
    ∙ left_out (among keys q) (get (restrict m keys) q) (get m q)
    ∙ sym (get-retain_keys m (λ key. not (among keys key)) q))

restrict-restrict : (m : Map) (keys : List Bytes) → restrict (restrict m keys) keys ≡ restrict m keys
restrict-restrict m keys =
    same (restrict (restrict m keys) keys) (restrict m keys) (λ q.
    get-restrict (restrict m keys) keys q ∙ ap (λ o. cond (among keys q) o None) (get-restrict m keys q)
    ∙ cut_twice (among keys q) (get m q) ∙ sym (get-restrict m keys q))

local-del : (keys : List Bytes) → IsLocal keys (del_case keys)
local-del keys m =
    ap (λ n. (n, count (len (restrict (restrict m keys) keys)))) (put_back-without m keys)
    ∙ ap (λ part. (without m keys, count (len part))) (restrict-restrict m keys)

-- of the commands that name their keys; those for all keys have no part of the map
pub local-key_command : (c : KeyCommand) → is_all (key_command_told c).keys ≡ false → IsLocal (key_command_keys c) (key_command_case c)
local-key_command (Del keys) named = local-del keys
local-key_command (Unlink keys) named = local-del keys
local-key_command (Exists keys) named = local-at_each keys (λ values. count (count_by is_some values))
local-key_command (TypeOf key) named = local-at_key key type_step
local-key_command (Rename from to) named = local-at_two from to (rename_step (bytes_eq from to))
local-key_command (Renamenx from to) named = local-at_two from to (renamenx_step (bytes_eq from to))
local-key_command Dbsize named = absurd cc
local-key_command Flushall named = absurd cc
