use Rattle.std.proofs.Common.{◌∷◌, [], refl, sym, subst}
use Rattle.front.proofs.FinishMakes.{finished_front, finishes, once_finished}
use Rattle.front.proofs.Views.{seen}
use Rattle.front.specs.Finishing.{outcome_with, Finishes}
use Rattle.front.specs.Settling.{IsTrueOf}
use Rattle.groups.specs.declared.stamp.Stamp.{Stamp}
use Rattle.router.specs.Finishing as router
use Rattle.front.proofs.front.Front.finish.Goals as goal

pub invariant_of-self-2 : goal.invariant_of-self-2
invariant_of-self-2 c =
    let old = seen c.self.inside in
    let row = c.args.row.now in
    let r = c.finish.new.self in
    let truth = subst (λ f. IsTrueOf f (row ∷ [])) (sym c.self.view_is) c.requires.truth in
    let outcome = outcome_with row c.in-Some.field-0 in
    let does = subst (λ (s : Stamp). router.Finishes old.router s.clock outcome r) c.stamp_of.ensures
    (c.finish.ensures.finished c.if-not-finish.false outcome refl) in
    once_finished old row c.in-Some.field-0 c.in-Some.is r does c.self.invariant truth c.clear.new.self.items c.clear.ensures.items

pub returns-clause-finished : goal.returns-clause-finished
returns-clause-finished c = λ yes.
    let old = seen c.self.inside in
    let row = c.args.row.now in
    let r = c.finish.new.self in
    let outcome = outcome_with row c.in-Some.field-0 in
    let does = subst (λ (s : Stamp). router.Finishes old.router s.clock outcome r) c.stamp_of.ensures
    (c.finish.ensures.finished c.if-not-finish.false outcome refl) in
    subst (λ f. Finishes f row (finished_front old row c.in-Some.field-0 c.in-Some.is r does c.clear.new.self.items)) c.self.view_is
    (finishes old row c.in-Some.field-0 c.in-Some.is r does c.clear.new.self.items c.clear.ensures.items)
