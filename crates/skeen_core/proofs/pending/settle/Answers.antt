-- Where the first request stays the first, what is taken out is what would be if it had moved before.
use Rattle.std.proofs.Common.{◌≡◌, [], ◌∷◌, ◌++◌, List, Option, Some, None, IsSome, IfSome, refl, sym, ap, ◌∙◌}
use Rattle.std.proofs.lemmas.Bool.{both_ways}
use Rattle.std.specs.BTreeMap.{BTreeMap, IsOrdered, Updates}
use Rattle.std.specs.FinMap.{insert}
use Rattle.groups.specs.declared.stamp.Stamp.{Stamp}
use Rattle.skeen_core.specs.Pending.{stamp_cmp, Entry, front, behind, delivered, forgotten, settled}
use Rattle.skeen_core.specs.declared.packet.Delivered.{Delivered}
use Rattle.skeen_core.specs.declared.pending.Pending.{Pending}
use Rattle.skeen_core.proofs.Firsts.{Popped, GoesFirst, goes_first, some_first, forget_told}
use Rattle.skeen_core.proofs.Fronts.{forget_more}
use Rattle.skeen_core.proofs.pending.settle.Goals as goal
use Rattle.skeen_core.proofs.pending.settle.Goals.{After-pop_settled}

popped : (m n : BTreeMap Stamp Pending) (r : Option Entry) → IsSome r → IfSome r (λ e. m.entries ≡ e ∷ n.entries)
    → IfSome r (λ e. Updates stamp_cmp m n e.0 None) → IsOrdered stamp_cmp n → Popped m.entries n.entries
popped m n None some was updates rise = absurd (both_ways _ refl some)
popped m n (Some e) some was updates rise = record { first = e; was = was; rise = rise; left = updates.0 }

goes : (c : After-pop_settled) → GoesFirst c.args.own c.args.stamp (settled c.args.request) c.args.pending.now.entries
    c.pop_first.new.self.entries
goes c =
    let stays = sym c.room_for-room.ensures.stays ∙ c.if-stays.true in
    goes_first c.args.own c.args.stamp (settled c.args.request) c.args.pending.now.entries c.pop_first.new.self.entries
    (popped c.args.pending.now c.pop_first.new.self c.pop_first.result
    (c.pop_first.ensures.variant.1 (some_first c.args.own c.args.stamp c.args.pending.now.entries stays)) c.pop_first.ensures.removal
    c.pop_first.ensures.updates c.pop_first.ensures.ordered)
    stays c.requires.not_below

pub returns-then-stays-clause-moves : goal.returns-then-stays-clause-moves
returns-then-stays-clause-moves c = (goes (goal.at.returns-then-stays-clause-moves c).After-pop_settled).moves

pub returns-then-stays-clause-delivered : goal.returns-then-stays-clause-delivered
returns-then-stays-clause-delivered c =
    let d = (goal.at.returns-then-stays-clause-delivered c).After-pop_settled in
    c.pop_settled.ensures.delivered ∙ ap (λ (l : List Delivered). l ++ front c.pop_first.new.self.entries)
    (c.push_reserved.ensures.items
    ∙ ap (λ (l : List Delivered). l ++ delivered (c.args.stamp, settled d.args.request) ∷ []) c.in_ok-delivered.ensures.items)
    ∙ sym (ap front (goes d).made)

pub returns-then-stays-clause-pending : goal.returns-then-stays-clause-pending
returns-then-stays-clause-pending c =
    let d = (goal.at.returns-then-stays-clause-pending c).After-pop_settled in
    c.pop_settled.ensures.pending ∙ sym (ap behind (goes d).made)

pub returns-then-stays-clause-proposals : goal.returns-then-stays-clause-proposals
returns-then-stays-clause-proposals c =
    let d = (goal.at.returns-then-stays-clause-proposals c).After-pop_settled in
    let gone = delivered (c.args.stamp, settled d.args.request) in
    c.pop_settled.ensures.proposals
    ∙ forget_more c.args.request.id gone (front c.pop_first.new.self.entries) c.args.proposals.now c.forget.new.self refl c.forget.ensures
    ∙ sym (forget_told gone (front c.pop_first.new.self.entries) c.args.proposals.now c.args.last.from c.args.last.clock)
    ∙ sym (ap (λ l. forgotten (front l) (insert c.args.proposals.now (record { id = c.args.request.id; from = c.args.last.from })
    c.args.last.clock)) (goes d).made)
