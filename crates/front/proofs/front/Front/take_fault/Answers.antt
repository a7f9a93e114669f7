use Rattle.std.proofs.Common.{rules, ◌≡◌, [], subst}
use Rattle.std.proofs.lemmas.Bool.{both_ways}
use Rattle.std.proofs.lemmas.List.{nil_from_length}
use Rattle.front.proofs.TakeMakes.{take_memory, take_unready}
use Rattle.front.proofs.Views.{seen}
use Rattle.front.specs.Refusing.{Refuses, RefusesNot}
use Rattle.journal.specs.declared.step.Step.TheVariants.{Take}
use Rattle.world.specs.Steps.{NoLayer}
use Rattle.front.proofs.front.Front.take_fault.Goals as goal

pub returns-then-has_ready-clause-none : goal.returns-then-has_ready-clause-none
returns-then-has_ready-clause-none c =
    let f = seen c.self.inside in
    let none : f.out ≡ [] = nil_from_length f.out (search rules) in
    subst (λ g. RefusesNot g Take) c.self.view_is
    (take_memory f none (λ unready. let some = c.has_ready.ensures.0 c.if-has_ready.true in unready some.0 some.1))

pub returns-else-has_ready-clause-some : goal.returns-else-has_ready-clause-some
returns-else-has_ready-clause-some c =
    let f = seen c.self.inside in
    let none : f.out ≡ [] = nil_from_length f.out (search rules) in
    subst (λ g. Refuses g Take NoLayer) c.self.view_is
    (take_unready f none (λ d ready. both_ways _ c.if-has_ready.false (c.has_ready.ensures.1 (d, ready))))
