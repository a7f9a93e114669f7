use Rattle.std.proofs.Common.{◌≡◌, ℕ, ◌<◌, ◌==◌, Bool, true, List, ◌∷◌, Option, None, get_or, length, inl, inr, refl, sym, ap, ◌∙◌, subst}
use Rattle.std.proofs.Common.{eq-eqb, eqb-true}
use Rattle.std.proofs.lemmas.Bool.{or_left, or_right, or_cases, both_ways}
use Rattle.std.proofs.lemmas.List.{get_or_default}
use Rattle.groups.specs.GroupSet.{has}
use Rattle.groups.specs.declared.stamp.Stamp.{Stamp}
use Rattle.shard_exec.specs.Stamps.{is_above, last_of}
use Rattle.shard_exec.proofs.store.is_fresh.Goals as goal

-- the first of those that are left is one of them
first_in : (left rest : List ℕ) (g : ℕ) → left ≡ g ∷ rest → has left g ≡ true
first_in left rest g is = ap (λ gs. has gs g) is ∙ or_left _ _ (eq-eqb g g refl)

-- what was said of the stamp that was read, is said of the group's last one
said : (lasts : List (Option Stamp)) (stamp : Stamp) (x : Option Stamp) (n g : ℕ) (b : Bool) → n ≡ g → g < length lasts
    → x ≡ get_or lasts n x → b ≡ is_above x stamp → b ≡ is_above (last_of lasts g) stamp
said lasts stamp x n g b same below read says =
    says ∙ ap (λ l. is_above l stamp)
    (read ∙ ap (λ k. get_or lasts k x) same ∙ get_or_default lasts g x None below)

pub bounds-lasts-from : goal.bounds-lasts-from
bounds-lasts-from c =
    subst (λ n. n < length c.args.lasts.now) (sym (c.from.ensures ∙ c.number.ensures.same))
    (c.requires c.in-Some.group (c.loop-group.invariant.among c.in-Some.group (first_in _ _ c.in-Some.group c.in-Some.ensures.steps)))

pub returns-then-not-is_above-clause-stale : goal.returns-then-not-is_above-clause-stale
returns-then-not-is_above-clause-stale c fresh =
    let member = c.loop-group.invariant.among c.in-Some.group (first_in _ _ c.in-Some.group c.in-Some.ensures.steps) in
    both_ways c.is_above.result c.if-not-is_above.true
    (said c.args.lasts.now c.args.job.now.stamp c.index-lasts-from.result c.from.result c.in-Some.group c.is_above.result
    (c.from.ensures ∙ c.number.ensures.same) (c.requires c.in-Some.group member) c.index-lasts-from.is c.is_above.ensures
    ∙ fresh c.in-Some.group member)

pub loop-group-preserved : goal.loop-group-preserved
loop-group-preserved c =
    let member = c.loop-group.invariant.among c.in-Some.group (first_in _ _ c.in-Some.group c.in-Some.ensures.steps) in
    let told = said c.args.lasts.now c.args.job.now.stamp c.index-lasts-from.result c.from.result c.in-Some.group c.is_above.result
    (c.from.ensures ∙ c.number.ensures.same) (c.requires c.in-Some.group member) c.index-lasts-from.is c.is_above.ensures in
    record {
      passed = λ g its later. c.loop-group.invariant.passed g its (λ here.
          elim (or_cases (c.in-Some.group == g) (has c.next.new.self g) (sym (ap (λ gs. has gs g) c.in-Some.ensures.steps) ∙ here)) [
            | inl same ↦ ap (λ h. is_above (last_of c.args.lasts.now h) c.args.job.now.stamp) (sym (eqb-true c.in-Some.group g same))
                ∙ sym told ∙ c.if-not-is_above.false
            | inr rest ↦ later rest
          ]);
      among = λ g rest. c.loop-group.invariant.among g (ap (λ gs. has gs g) c.in-Some.ensures.steps ∙ or_right _ _ rest);
    }
