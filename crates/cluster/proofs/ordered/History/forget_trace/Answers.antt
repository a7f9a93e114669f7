use Rattle.std.proofs.Common.{None}
use Rattle.cluster.proofs.Histories.{history, history_traced}
use Rattle.cluster.proofs.ordered.History.forget_trace.Goals as goal

pub invariant_of-self : goal.invariant_of-self
invariant_of-self g c =
    let in' = c.self.inside in (
      history_traced g.T.Tabled.table (history in'.front in'.max_steps in'.told in'.ran in'.trace) None c.self.invariant.0 tt,
      c.self.invariant.1,
      c.self.invariant.2,
    )
