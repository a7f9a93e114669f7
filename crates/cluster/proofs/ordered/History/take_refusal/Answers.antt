use Rattle.std.proofs.Common.{sym, subst}
use Rattle.cluster.proofs.Histories.{history, told_as, memory_of}
use Rattle.cluster.specs.Histories.{MayGoOn, IsFault}
use Rattle.cluster.specs.declared.fault.StepFault.TheVariants.{Memory}
use Rattle.journal.specs.declared.step.Step.TheVariants.{Take}
use Rattle.cluster.proofs.ordered.History.take_refusal.Goals as goal

pub returns-in-Some : goal.returns-in-Some
returns-in-Some g c =
    let in' = c.self.inside in
    let h = history in'.front in'.max_steps in'.told in'.ran in'.trace in
    subst (λ h. IsFault h Take c.from.result) c.self.view_is
    (told_as g.T.Tabled.table h c.self.invariant.0 Take c.in-Some.fault c.from.result c.from.ensures
    (subst (λ h. MayGoOn h Take) (sym c.self.view_is) c.requires) c.in-Some.ensures.some)

pub returns-in-None : goal.returns-in-None
returns-in-None g c =
    let in' = c.self.inside in
    let h = history in'.front in'.max_steps in'.told in'.ran in'.trace in
    subst (λ h. IsFault h Take Memory) c.self.view_is
    (memory_of g.T.Tabled.table h c.self.invariant.0 Take (subst (λ h. MayGoOn h Take) (sym c.self.view_is) c.requires)
    c.in-None.ensures.none)
