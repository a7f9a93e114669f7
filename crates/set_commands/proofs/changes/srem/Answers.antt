use Rattle.std.proofs.Common.{◌≡◌, ◌-◌, List, [], ◌∷◌, length, Option, None, refl, sym, ap, ◌∙◌}
use Rattle.std.specs.FinMap.{get}
use Rattle.command_cases.specs.Case.{at_key}
use Rattle.command_cases.specs.Replies.{count}
use Rattle.set_commands.specs.SetCommand.{changes_set, srem_change}
use Rattle.keyspace.proofs.Changes.{remove-none}
use Rattle.keyspace.specs.Map.{Map, set}
use Rattle.resp.specs.Content.{Content}
use Rattle.texts.specs.Texts.{Bytes}
use Rattle.values.specs.SetValue.{without_members}
use Rattle.values.specs.Value.{set_value}
use Rattle.values.specs.declared.Value.{Value}
use Rattle.set_commands.proofs.changes.srem.Goals as goal

without_members-none : (gone : List Bytes) → without_members [] gone ≡ []
without_members-none [] = refl
without_members-none (member ∷ gone) = without_members-none gone

srem-missing : (gone : List Bytes) → ◌≡◌ {A = Option Value × Content} (changes_set (srem_change gone) None) (None, count 0)
srem-missing gone = ap (λ left. (set_value left, count (0 - length left))) (without_members-none gone)

-- where the key is missing the map stays
left_missing : (m : Map) (key : Bytes) (gone : List Bytes) → get m key ≡ None
    → ◌≡◌ {A = Map × Content} (m, count 0) (at_key key (changes_set (srem_change gone)) m)
left_missing m key gone none =
    let stepped : ◌≡◌ {A = Option Value × Content} (changes_set (srem_change gone) (get m key)) (None, count 0) =
    ap (changes_set (srem_change gone)) none ∙ srem-missing gone in
    ap (λ n. (n, count 0)) (sym (remove-none m key none)) ∙ ap (λ r. (set m key r.0, r.1)) (sym stepped)

pub returns-in-None-clause-done : goal.returns-in-None-clause-done
returns-in-None-clause-done g c =
    let m = g.K.Keyspace.contents c.args.keyspace.now in
    let none : get m c.args.key ≡ None = ap (get m) (sym c.as_slice.ensures) ∙ sym c.in-None.ensures in
    ap (λ r. (m, r)) c.count_reply.ensures ∙ left_missing m c.args.key c.args.members none
