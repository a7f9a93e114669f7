use Rattle.std.proofs.Common.{◌+◌, ◌<◌, length, sym, subst}
use Rattle.cluster.proofs.Histories.{history, goes_on, told_as, memory_of}
use Rattle.cluster.specs.Histories.{HistoryView, kept_for, IsFault}
use Rattle.cluster.specs.declared.fault.StepFault.TheVariants.{Memory}
use Rattle.cluster.proofs.ordered.History.refusal.Goals as goal

pub returns-in-Some : goal.returns-in-Some
returns-in-Some g c =
    let in' = c.self.inside in
    let h = history in'.front in'.max_steps in'.told in'.ran in'.trace in
    let left = subst (λ (h : HistoryView). length h.steps + kept_for h.front.out < h.max_steps) (sym c.self.view_is)
    (c.is_exhausted.ensures.left c.if-is_exhausted.false) in
    subst (λ h. IsFault h c.args.step.now c.from.result) c.self.view_is
    (told_as g.T.Tabled.table h c.self.invariant.0 c.args.step.now c.in-Some.fault c.from.result c.from.ensures
    (goes_on h c.args.step.now c.requires left) c.in-Some.ensures.some)

pub returns-in-None : goal.returns-in-None
returns-in-None g c =
    let in' = c.self.inside in
    let h = history in'.front in'.max_steps in'.told in'.ran in'.trace in
    let left = subst (λ (h : HistoryView). length h.steps + kept_for h.front.out < h.max_steps) (sym c.self.view_is)
    (c.is_exhausted.ensures.left c.if-is_exhausted.false) in
    subst (λ h. IsFault h c.args.step.now Memory) c.self.view_is
    (memory_of g.T.Tabled.table h c.self.invariant.0 c.args.step.now (goes_on h c.args.step.now c.requires left) c.in-None.ensures.none)
