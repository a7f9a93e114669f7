use Rattle.std.proofs.Common.{◌≡◌, ℕ, List, Option, Some, None, IsSome, inl, inr, refl, subst}
use Rattle.std.proofs.lemmas.Bool.{both_ways}
use Rattle.std.specs.FinMap.{get}
use Rattle.groups.specs.declared.request.RequestId.{RequestId}
use Rattle.skeen_core.specs.Group.{GroupState, GroupView, heard, CountsKept}
use Rattle.skeen_core.specs.Kept.{state_of}
use Rattle.skeen_core.specs.Lawful.{Sound}
use Rattle.skeen_core.specs.Proposals.{CountsNamed}
use Rattle.skeen_core.proofs.agreement.Agreement.kept.Goals as goal

-- the group has proposed for each request that has started
own_there : (me : ℕ) (grp : GroupState) (i : RequestId) → Sound me grp → IsSome (get grp.started i) → IsSome (heard grp i me)
own_there me grp i sound starts = by_start (get grp.started i) refl starts
  where
    by_start : (o : Option (List ℕ)) → get grp.started i ≡ o → IsSome o → IsSome (heard grp i me)
    by_start None e s = absurd (both_ways _ refl s)
    by_start (Some gs) e s = (sound.started i gs e).0

counts : (me : ℕ) (grp : GroupState) (n : ℕ) → Sound me grp → CountsNamed grp.proposals n → CountsKept grp n
counts me grp n sound named = record {
  ids = named.ids;
  once = named.once;
  kept = λ i there. inr ((named.named i).0 there);
  all = λ i kept. elim kept [
    | inl starts ↦ (named.named i).1 (me, own_there me grp i sound starts)
    | inr it ↦ (named.named i).1 it
  ];
  count = named.count;
}

pub returns : goal.returns
returns c =
    let g = c.self.inside in
    subst (λ (v : GroupView). CountsKept v.state c.len.result) c.self.view_is
    (counts g.id (state_of g.clock g.pending.entries g.proposals) c.len.result c.self.invariant.lawful.sound c.len.ensures)
