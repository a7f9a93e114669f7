use Rattle.std.proofs.Common.{ap, sym, subst}
use Rattle.cluster.proofs.Seats.{cluster_same, room_still}
use Rattle.cluster.specs.Histories.{HistoryView}
use Rattle.cluster.specs.Traces.{HasRoom}
use Rattle.cluster.proofs.cluster.Cluster.forget_trace.Goals as goal

pub invariant_of-self : goal.invariant_of-self
invariant_of-self g c =
    let same = c.forget_trace.ensures in (
      cluster_same c.self.invariant.0 c.forget_trace.new.self (ap (λ (h : HistoryView). h.steps) same)
          (ap (λ (h : HistoryView). h.max_steps) same),
      room_still c.self.invariant.1 c.forget_trace.new.self _ _
          (λ had. subst (λ t. HasRoom c.self.inside.kept t) (sym (ap (λ (h : HistoryView). h.trace) same)) tt),
    )
