use Rattle.std.proofs.Common.{◌≡◌, ◌<◌, [], ◌∷◌, ◌++◌, length, cond, Some, None, IsSome, OnOk, OnErr, Ok, Err, Result, ap, ◌∙◌, sym, subst}
use Rattle.std.proofs.Common.{refl}
use Rattle.std.proofs.Common.{◌⊎◌, inl, inr}
use Rattle.std.specs.FinMap.{get, insert}
use Rattle.groups.specs.Request.{same_id}
use Rattle.groups.proofs.Options.{some_same}
use Rattle.groups.proofs.Ids.{same_id-true}
use Rattle.skeen_core.proofs.Entries.{stands}
use Rattle.skeen_core.proofs.ProposalLists.{Changed, source, or_empty, list_at, added, lists_changed, longer, same_lists}
use Rattle.skeen_core.proofs.proposals.Proposals.add.Goals as goal
use Rattle.skeen_core.proofs.proposals.Proposals.add.Goals.{After-push, In_ok-insert}

either : {X E P Q : Type 0} (r : Result X E) → OnOk r P → OnErr r Q → P ⊎ Q
either (Ok x) p q = inl p
either (Err e) p q = inr q

on_ok : {X E P Q : Type 0} (r : Result X E) → OnOk r P → (P → Q) → OnOk r Q
on_ok (Ok x) p f = f p
on_ok (Err e) p f = p

on_err : {X E P Q : Type 0} (r : Result X E) → OnErr r P → (P → Q) → OnErr r Q
on_err (Ok x) p f = p
on_err (Err e) p f = f p

had : (c : After-push) → list_at c.self.inside.lists.entries c.args.id ≡ Some c.in-Some.list.now
had c = sym c.in-Some.ensures.value

-- the list that is lent stands in the place of the old one
written : (c : After-push) → Changed c.args.id (Some c.push.new.self) c.self.inside.lists.entries
    (c.get_mut.follows.lender c.push.new.self).entries
written c =
    let holds = c.get_mut.follows.holds c.push.new.self in
    record { once = holds.4; at = (holds.3 (subst (λ o. IsSome o) (sym (had c)) refl)).0 }

pub invariant_of-self : goal.invariant_of-self
invariant_of-self c =
    let d = (goal.at.invariant_of-self c).After-push in
    lists_changed c.args.id _ c.self.inside.lists.entries _ c.self.invariant (written d) (λ ps e.
    let same : c.push.new.self ≡ ps = some_same _ _ e in
    subst (λ l. 0 < length l) same (elim (either c.push.result c.push.ensures.pushed c.push.ensures.unchanged) [
      | inl new ↦ longer c.in-Some.list.now c.args.proposal _ (ap Some (sym new))
      | inr old ↦ subst (λ l. 0 < length l) (sym old)
          (c.self.invariant.some (c.args.id, c.in-Some.list.now) (stands same_id-true _ c.args.id _ (had d)))
    ]))

pub returns-in-Some-clause-added : goal.returns-in-Some-clause-added
returns-in-Some-clause-added c =
    let d = (goal.at.returns-in-Some-clause-added c).After-push in
    on_ok c.push.result c.push.ensures.pushed (λ new.
    added c.args.id c.args.proposal c.self.inside.lists.entries _ c.self.invariant
    (subst (λ l. Changed c.args.id (Some l) c.self.inside.lists.entries (c.get_mut.follows.lender c.push.new.self).entries)
    (new ∙ ap (λ o. or_empty o ++ c.args.proposal ∷ []) (sym (had d))) (written d))
    (ap (λ m. get m (source c.args.id c.args.proposal.from)) c.self.view_is ∙ c.requires)
    ∙ ap (λ m. insert m (source c.args.id c.args.proposal.from) c.args.proposal.clock) c.self.view_is)

pub returns-in-Some-clause-unchanged : goal.returns-in-Some-clause-unchanged
returns-in-Some-clause-unchanged c =
    let d = (goal.at.returns-in-Some-clause-unchanged c).After-push in
    on_err c.push.result c.push.ensures.unchanged (λ old.
    same_lists c.args.id (Some c.push.new.self) c.self.inside.lists.entries _ c.self.invariant (written d) (had d ∙ ap Some (sym old))
    ∙ c.self.view_is)

-- ---- the first of its request

entered : (c : In_ok-insert) → Changed c.args.id (Some (or_empty (list_at c.self.inside.lists.entries c.args.id) ++ c.args.proposal ∷ []))
    c.self.inside.lists.entries c.insert.new.self.entries
entered c =
    let none : list_at c.self.inside.lists.entries c.args.id ≡ None = sym c.in_default.ensures.value in
    record {
      once = c.in_ok-insert.ensures.unique;
      at = λ q.
          let here = same_id c.args.id q in
          c.in_ok-insert.ensures.updates.0 q
          ∙ ap (λ l. cond here (Some l) (list_at c.get_mut.follows.lender-at-none.entries q)) c.in_ok-list.ensures
          ∙ ap (λ m. cond here (Some (c.args.proposal ∷ [])) (list_at m.entries q)) c.get_mut.follows.holds-at-none
          ∙ ap (λ o. cond here (Some (or_empty o ++ c.args.proposal ∷ [])) (list_at c.self.inside.lists.entries q)) (sym none);
    }

pub invariant_of-self-2 : goal.invariant_of-self-2
invariant_of-self-2 c = lists_changed c.args.id _ c.self.inside.lists.entries _ c.self.invariant
    (entered (goal.at.invariant_of-self-2 c).In_ok-insert) (longer
    (or_empty (list_at c.self.inside.lists.entries c.args.id)) c.args.proposal)

pub returns-clause-added : goal.returns-clause-added
returns-clause-added c =
    added c.args.id c.args.proposal c.self.inside.lists.entries _ c.self.invariant (entered (goal.at.returns-clause-added c).In_ok-insert)
    (ap (λ m. get m (source c.args.id c.args.proposal.from)) c.self.view_is ∙ c.requires)
    ∙ ap (λ m. insert m (source c.args.id c.args.proposal.from) c.args.proposal.clock) c.self.view_is
