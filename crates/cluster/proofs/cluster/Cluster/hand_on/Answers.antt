use Rattle.std.proofs.Common.{ap}
use Rattle.cluster.proofs.Seats.{cluster_same, room_still}
use Rattle.cluster.specs.Histories.{HistoryView}
use Rattle.cluster.proofs.cluster.Cluster.hand_on.Goals as goal

pub invariant_of-self : goal.invariant_of-self
invariant_of-self g c =
    let same = c.hand_on.ensures.same in (
      cluster_same c.self.invariant.0 c.hand_on.new.history (ap (λ (h : HistoryView). h.steps) same)
          (ap (λ (h : HistoryView). h.max_steps) same),
      room_still c.self.invariant.1 c.hand_on.new.history _ _ c.hand_on.ensures.room,
    )
