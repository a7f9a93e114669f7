use Rattle.std.proofs.Common.{◌∙◌, length, sym, ap, subst}
use Rattle.cluster.proofs.Histories.{history, history_traced}
use Rattle.cluster.proofs.Tapes.{trace_handed}
use Rattle.cluster.specs.Histories.{HistoryView}
use Rattle.cluster.specs.Traces.{IsHandedOn}
use Rattle.cluster.proofs.ordered.History.hand_on.Goals as goal

pub invariant_of-self-2 : goal.invariant_of-self-2
invariant_of-self-2 g c =
    let in' = c.self.inside in
    let old = history in'.front in'.max_steps in'.told in'.ran in'.trace in
    let made = c.count-made.ensures ∙ ap (λ (h : HistoryView). length h.steps) (sym c.self.view_is) in
    let handed = subst (λ n. IsHandedOn n in'.trace c.in-Some.from c.in-Some.steps.steps c.hand_on.new.trace) made
    (rw c.in-Some.is at c.in_ok-from.ensures.handed) in (
      history_traced g.T.Tabled.table old c.hand_on.new.trace c.self.invariant.0
          (trace_handed in'.trace c.hand_on.new.trace in'.told c.in-Some.steps.steps in'.max_steps c.in-Some.from handed
          c.self.invariant.0.traced),
      c.self.invariant.1,
      c.self.invariant.2,
    )
