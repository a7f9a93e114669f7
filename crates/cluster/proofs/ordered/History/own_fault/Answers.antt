use Rattle.std.proofs.Common.{◌+◌, ◌<◌, length, sym, subst}
use Rattle.cluster.proofs.Histories.{history, goes_on, told_as, wants_of}
use Rattle.cluster.specs.Histories.{HistoryView, kept_for, IsFault}
use Rattle.cluster.proofs.ordered.History.own_fault.Goals as goal

pub returns-in-Some-clause-fault : goal.returns-in-Some-clause-fault
returns-in-Some-clause-fault g c =
    let in' = c.self.inside in
    let h = history in'.front in'.max_steps in'.told in'.ran in'.trace in
    let left = subst (λ (h : HistoryView). length h.steps + kept_for h.front.out < h.max_steps) (sym c.self.view_is) c.requires.left in
    subst (λ h. IsFault h c.args.step.now c.from.result) c.self.view_is
    (told_as g.T.Tabled.table h c.self.invariant.0 c.args.step.now c.in-Some.fault c.from.result c.from.ensures
    (goes_on h c.args.step.now c.requires.plain left) c.in-Some.ensures.some)

pub returns-in-Some-clause-wants : goal.returns-in-Some-clause-wants
returns-in-Some-clause-wants g c =
    wants_of c.args.step.now c.in-Some.fault c.self.inside.front c.from.result c.from.ensures c.in-Some.ensures.some
