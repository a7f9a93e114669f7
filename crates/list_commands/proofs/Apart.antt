-- A change at one key, then one at another.
use Rattle.std.proofs.Common.{◌≡◌, IsTrue, false, Option, Some, None, refl, sym, ap, ◌∙◌}
use Rattle.std.specs.FinMap.{get, insert}
use Rattle.std.specs.Str.{bytes_eq}
use Rattle.command_cases.proofs.Beside.{get-insert_beside, set-insert_beside}
use Rattle.command_cases.specs.Case.{Step, at_key}
use Rattle.command_cases.specs.Shapes.{at_two, set_two}
use Rattle.keyspace.proofs.Changes.{set-set}
use Rattle.keyspace.proofs.Gets.{bytes_eq-swap}
use Rattle.keyspace.specs.Map.{Map, set}
use Rattle.list_commands.specs.ListCommand.{at_list, is_list, items_there, may_be_list, move_step, pop_step}
use Rattle.resp.specs.Content.{Content}
use Rattle.texts.specs.Texts.{Bytes}
use Rattle.texts.specs.declared.text_list.End.{End}
use Rattle.values.specs.ListValue.{end_item, joined}
use Rattle.values.specs.declared.Value.{Value}
use Rattle.values.specs.declared.Value.TheVariants as kind

-- a value that was taken out, and what is then left
pub left_at : (m held n : Map) (key : Bytes) (step : Step) (v : Value) (before left : Option Value) (reply : Content) → get m key ≡ before
    → held ≡ insert m key v → n ≡ set held key left → left ≡ (step before).0 → reply ≡ (step before).1 → (n, reply) ≡ at_key key step m
left_at m held n key step v before left reply there out back leaves answers =
    let placed : n ≡ set m key (step (get m key)).0 =
    back ∙ ap (λ a. set a key left) out ∙ set-set m key (Some v) left ∙ ap (set m key) (leaves ∙ ap (λ o. (step o).0) (sym there)) in
    ap (λ a. (a, reply)) placed ∙ ap (λ r. (set m key (step (get m key)).0, r)) (answers ∙ ap (λ o. (step o).1) (sym there))

-- the list that is put at the second key
abbrev pub put_there : End → End → Option Value → Option Value → Value
put_there taken put source target = kind.List (joined put (items_there target) (end_item taken (items_there source)))

in_turn : (m : Map) (from to : Bytes) (taken put : End) (source target : Option Value) → IsTrue (is_list source) →
    IsTrue (may_be_list target)
    → ◌≡◌ {A = Map × Content}
    (insert (set m from (at_list (pop_step taken) source).0) to (put_there taken put source target), (at_list (pop_step taken) source).1)
    (set_two m from to (move_step false taken put source target).0, (move_step false taken put source target).1)
in_turn m from to taken put None target a b = absurd (cc)
in_turn m from to taken put (Some (kind.Str text)) target a b = absurd (cc)
in_turn m from to taken put (Some (kind.Hash pairs)) target a b = absurd (cc)
in_turn m from to taken put (Some (kind.Set members)) target a b = absurd (cc)
in_turn m from to taken put (Some (kind.List items)) None a b = refl
in_turn m from to taken put (Some (kind.List items)) (Some (kind.List others)) a b = refl
in_turn m from to taken put (Some (kind.List items)) (Some (kind.Str text)) a b = absurd (cc)
in_turn m from to taken put (Some (kind.List items)) (Some (kind.Hash pairs)) a b = absurd (cc)
in_turn m from to taken put (Some (kind.List items)) (Some (kind.Set members)) a b = absurd (cc)

-- the item is put at the second key, and then taken at the first
pub moved : (m : Map) (from to : Bytes) (taken put : End) → bytes_eq from to ≡ false → IsTrue (is_list (get m from)) →
    IsTrue (may_be_list (get m to))
    → at_key from (at_list (pop_step taken)) (insert m to (put_there taken put (get m from) (get m to))) ≡ at_two from to
    (move_step false taken put) m
moved m from to taken put apart a b =
    let v = put_there taken put (get m from) (get m to) in
    let step = at_list (pop_step taken) in
    let beside : bytes_eq to from ≡ false = bytes_eq-swap to from ∙ apart in
    ap (λ o. (set (insert m to v) from (step o).0, (step o).1)) (get-insert_beside m to from v beside)
    ∙ ap (λ n. (n, (step (get m from)).1)) (set-insert_beside m to from v (step (get m from)).0 apart)
    ∙ in_turn m from to taken put (get m from) (get m to) a b
