use Rattle.std.proofs.Common.{◌≡◌, ◌-◌, List, [], ◌∷◌, length, Option, None, refl, sym, ap, ◌∙◌}
use Rattle.std.specs.FinMap.{get}
use Rattle.command_cases.specs.Case.{at_key}
use Rattle.command_cases.specs.Replies.{count}
use Rattle.hash_commands.specs.HashCommand.{changes_hash, hdel_change}
use Rattle.keyspace.proofs.Changes.{remove-none}
use Rattle.keyspace.specs.Map.{Map, set}
use Rattle.resp.specs.Content.{Content}
use Rattle.texts.specs.Texts.{Bytes}
use Rattle.values.specs.HashValue.{without_fields}
use Rattle.values.specs.Value.{hash_value}
use Rattle.values.specs.declared.Value.{Value}
use Rattle.hash_commands.proofs.changes.hdel.Goals as goal

without_fields-none : (fields : List Bytes) → without_fields [] fields ≡ []
without_fields-none [] = refl
without_fields-none (field ∷ fields) = without_fields-none fields

hdel-missing : (fields : List Bytes) → ◌≡◌ {A = Option Value × Content} (changes_hash (hdel_change fields) None) (None, count 0)
hdel-missing fields = ap (λ left. (hash_value left, count (0 - length left))) (without_fields-none fields)

-- where the key is missing the map stays
left_missing : (m : Map) (key : Bytes) (fields : List Bytes) → get m key ≡ None
    → ◌≡◌ {A = Map × Content} (m, count 0) (at_key key (changes_hash (hdel_change fields)) m)
left_missing m key fields none =
    let stepped : ◌≡◌ {A = Option Value × Content} (changes_hash (hdel_change fields) (get m key)) (None, count 0) =
    ap (changes_hash (hdel_change fields)) none ∙ hdel-missing fields in
    ap (λ n. (n, count 0)) (sym (remove-none m key none)) ∙ ap (λ r. (set m key r.0, r.1)) (sym stepped)

pub returns-in-None-clause-done : goal.returns-in-None-clause-done
returns-in-None-clause-done g c =
    let m = g.K.Keyspace.contents c.args.keyspace.now in
    let none : get m c.args.key ≡ None = ap (get m) (sym c.as_slice.ensures) ∙ sym c.in-None.ensures in
    ap (λ r. (m, r)) c.count_reply.ensures ∙ left_missing m c.args.key c.args.fields none
