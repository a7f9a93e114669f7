use Rattle.std.proofs.Common.{◌≡◌, ◌-◌, Some, None, IsSome, ◌∙◌, sym, subst, refl}
use Rattle.groups.proofs.Options.{some_same}
use Rattle.skeen_core.specs.Pending.{is_place, at, Moves}
use Rattle.skeen_core.proofs.Places.{absorbed}
use Rattle.skeen_core.proofs.pending.lower.Goals as goal

pub returns-in-Some : goal.returns-in-Some
returns-in-Some c = λ p e.
    let one = c.in-Some.request.now in
    let holds = c.get_mut.follows.holds (record one { missing = one.missing - 1 }) in
    let there = c.in-Some.ensures.value in
    let is : one ≡ p = some_same one p (there ∙ e) in
    subst (λ x. Moves c.args.place.now c.args.place.now (record x { missing = x.missing - 1 }) c.args.pending.now.entries
    (c.get_mut.follows.lender (record one { missing = one.missing - 1 })).entries) is (record {
      rise = holds.4;
      at = λ q. (holds.3 (subst (λ o. IsSome o) there refl)).0 q
          ∙ sym (absorbed (is_place c.args.place.now q) (Some (record one { missing = one.missing - 1 })) None
          (at c.args.pending.now.entries q));
    })
