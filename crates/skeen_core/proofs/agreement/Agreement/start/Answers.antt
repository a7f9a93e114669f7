-- A Start: what the code has made is what the rule gives.
use Rattle.std.proofs.Common.{◌≡◌, ◌+◌, [], ◌∷◌, ◌++◌, length, refl, sym, ap, ◌∙◌, subst, arith, List}
use Rattle.skeen_core.specs.Group.{GroupView, BodyMayCome, IsReceipt, with_start, lift, lifted}
use Rattle.skeen_core.specs.Heard.{with_heard, missing}
use Rattle.skeen_core.specs.declared.packet.Body.TheVariants.{Start}
use Rattle.skeen_core.specs.declared.packet.Delivered.{Delivered}
use Rattle.std.specs.BTreeMap.{insert_entry}
use Rattle.groups.specs.Stamp.{final}
use Rattle.groups.specs.declared.stamp.Stamp.{Stamp}
use Rattle.skeen_core.specs.Kept.{state_of}
use Rattle.skeen_core.specs.Pending.{stamp_cmp, at, Moves}
use Rattle.skeen_core.specs.declared.heard.Heard.{Heard}
use Rattle.skeen_core.proofs.Receipts.{Comes, comes_as}
use Rattle.skeen_core.proofs.Starts.{Begun, begins_free, begins_waits, begins_at_once, begins_receipt, again_receipt, view, none_of}
use Rattle.skeen_core.proofs.Starts.{some_of}
use Rattle.skeen_core.proofs.Starts.{begun, with_own}
use Rattle.skeen_core.proofs.agreement.Agreement.start.Goals as goal
use Rattle.skeen_core.proofs.agreement.Agreement.start.Goals.{In_ok-sent, In_ok-enter, After-lifted-self-inside-2}

pub returns-then-is_some-clause-done : goal.returns-then-is_some-clause-done
returns-then-is_some-clause-done c =
    let g = c.self.inside in
    let had = some_of c.clock_of.result (sym c.is_some.ensures ∙ c.if-is_some.true) in
    subst (λ (v : GroupView). IsReceipt v c.args.id (Start c.args.floor c.args.groups) c.new.result.items c.new-then-is_some.result.items
    (view g.id g.clock g.pending.entries g.proposals 0)) c.self.view_is
    (again_receipt g.id g.clock g.pending.entries g.proposals g.looks c.args.id c.args.floor c.args.groups had.0 c.self.invariant
    (sym (c.of-list.ensures g.id) ∙ sym c.clock_of.ensures ∙ had.1) _ _ c.new.ensures.items c.new-then-is_some.ensures.items)

made : (c : In_ok-sent) → Begun c.self.inside.id c.self.inside.clock c.self.inside.pending.entries c.self.inside.proposals c.args.id
    c.args.floor
    c.args.groups (c.max-clock.result + 1) c.final_stamp-final_stamp.result c.missing-missing.result
made c =
    let g = c.self.inside in
    let body = subst (λ (v : GroupView). BodyMayCome v.me v.state c.args.id (Start c.args.floor c.args.groups)) (sym c.self.view_is)
    c.requires.body in
    let last : Heard = record { from = g.id; clock = c.max-clock.result + 1 } in
    record {
      kept = c.self.invariant;
      none = sym (c.of-list.ensures g.id) ∙ sym c.clock_of.ensures ∙ none_of c.clock_of.result (sym c.is_some.ensures ∙ c.if-is_some.false);
      member = body.0;
      clock = omega (arith, c.max-clock.ensures);
      ascending = c.missing-missing.ensures.ascending;
      final = c.final_stamp-final_stamp.ensures ∙ ap (λ f. final (with_heard last f) c.args.groups) (λ k h. c.of-list.ensures h k);
      missing = c.missing-missing.ensures.count ∙ ap (λ f. missing (with_heard last f) c.args.groups) (λ k h. c.of-list.ensures h k);
    }

-- ---- it waits

waited : (c : In_ok-enter)
    → Begun c.self.inside.id c.self.inside.clock c.self.inside.pending.entries c.self.inside.proposals c.args.id c.args.floor
    c.args.groups (c.max-clock.result + 1) c.final_stamp-final_stamp.result c.missing-missing.result
    → Comes c.self.inside.id
    (lifted (with_start c.self.inside.id (state_of c.self.inside.clock c.self.inside.pending.entries c.self.inside.proposals) c.args.id
    c.args.floor
    c.args.groups) c.args.id) [] (lift (c.max-clock.result + 1) c.final_stamp-final_stamp.result) c.enter.new.pending.entries
    (with_own c.self.inside.proposals c.args.id c.self.inside.id (c.max-clock.result + 1))
waited c b =
    let p = begun c.args.id c.args.groups c.missing-missing.result in
    let place = c.place_by-place.ensures in
    begins_waits b c.enter.new.pending.entries
    (subst (λ t. Moves t t p c.self.inside.pending.entries c.enter.new.pending.entries) place c.in_ok-enter.ensures.moves)
    (c.in_ok-enter.ensures.entered ∙ ap (λ t. insert_entry stamp_cmp c.self.inside.pending.entries t p) place) c.in_default.ensures

pub enter-requires-clause-free : goal.enter-requires-clause-free
enter-requires-clause-free c =
    ap (λ (s : Stamp). at c.self.inside.pending.entries s) c.place_by-place.ensures
    ∙ begins_free (made (goal.at.enter-requires-clause-free c).In_ok-sent)

pub invariant_of-self-in_default : goal.invariant_of-self-in_default
invariant_of-self-in_default c =
    let d = goal.at.invariant_of-self-in_default c in
    (comes_as refl (sym c.lifted-self-inside.ensures) refl (sym c.in_ok-enter.ensures.added)
    (waited d.In_ok-enter (made d.In_ok-sent))).kept

pub returns-in_default-clause-done : goal.returns-in_default-clause-done
returns-in_default-clause-done c =
    let g = c.self.inside in
    let d = goal.at.returns-in_default-clause-done c in
    let ds = c.new-in_default.result.items in
    let long = ap (λ (l : List Delivered). length l) c.new-in_default.ensures.items in
    let comes = comes_as (sym c.new-in_default.ensures.items) (sym c.lifted-self-inside.ensures) refl (sym c.in_ok-enter.ensures.added)
    (waited d.In_ok-enter (made d.In_ok-sent)) in
    subst (λ (v : GroupView). IsReceipt v c.args.id (Start c.args.floor c.args.groups) c.in_ok-sent.sent.items ds
    (view g.id c.lifted-self-inside.result c.enter.new.pending.entries c.enter.new.proposals 1)) c.self.view_is
    (begins_receipt (made d.In_ok-sent) c.in_ok-sent.sent.items ds c.lifted-self-inside.result c.enter.new.pending.entries
    c.enter.new.proposals
    g.looks 1 c.in_ok-sent.ensures comes (omega arith) (omega arith) (omega arith))

-- ---- it is delivered at once

gone : (c : After-lifted-self-inside-2)
    → Begun c.self.inside.id c.self.inside.clock c.self.inside.pending.entries c.self.inside.proposals c.args.id c.args.floor
    c.args.groups (c.max-clock.result + 1) c.final_stamp-final_stamp.result c.missing-missing.result
    → Comes c.self.inside.id
    (lifted (with_start c.self.inside.id (state_of c.self.inside.clock c.self.inside.pending.entries c.self.inside.proposals) c.args.id
    c.args.floor
    c.args.groups) c.args.id) (record { id = c.args.id; stamp = c.in-Some.stamp; groups = c.args.groups } ∷ [])
    c.lifted-self-inside-2.result
    c.self.inside.pending.entries c.forget.new.self
gone c b = comes_as refl (sym c.lifted-self-inside-2.ensures) refl refl
    (begins_at_once b c.in-Some.stamp c.in-Some.ensures.0 c.in-Some.ensures.1 c.forget.new.self c.forget.ensures)

pub invariant_of-self-2 : goal.invariant_of-self-2
invariant_of-self-2 c = let d = goal.at.invariant_of-self-2 c in (gone d.After-lifted-self-inside-2 (made d.In_ok-sent)).kept

pub returns-clause-done : goal.returns-clause-done
returns-clause-done c =
    let g = c.self.inside in
    let d = goal.at.returns-clause-done c in
    let items : c.push_reserved.new.self.items ≡ record { id = c.args.id; stamp = c.in-Some.stamp; groups = c.args.groups } ∷ [] =
    c.push_reserved.ensures.items ∙ ap (λ l. l ++ record { id = c.args.id; stamp = c.in-Some.stamp; groups = c.args.groups } ∷ [])
    c.in_ok-delivered.ensures.items in
    let long = ap (λ (l : List Delivered). length l) items in
    subst (λ (v : GroupView). IsReceipt v c.args.id (Start c.args.floor c.args.groups) c.in_ok-sent.sent.items
    c.push_reserved.new.self.items
    (view g.id c.lifted-self-inside-2.result g.pending.entries c.forget.new.self 1)) c.self.view_is
    (begins_receipt (made d.In_ok-sent) c.in_ok-sent.sent.items _ c.lifted-self-inside-2.result g.pending.entries c.forget.new.self
    g.looks 1 c.in_ok-sent.ensures (comes_as (sym items) refl refl refl (gone d.After-lifted-self-inside-2 (made d.In_ok-sent)))
    (omega arith) (omega arith) (omega arith))
