use Rattle.std.proofs.Common.{◌≡◌, ◌≤◌, length, subst, arith}
use Rattle.cluster.proofs.Histories.{history}
use Rattle.cluster.proofs.Taking.{lawful}
use Rattle.cluster.specs.Histories.{HistoryView, IsLawful}
use Rattle.journal.specs.declared.trace.TheConstants.{GREATEST_STEPS}
use Rattle.cluster.proofs.ordered.History.lawful.Goals as goal

pub returns-clause-lawful : goal.returns-clause-lawful
returns-clause-lawful g c =
    let in' = c.self.inside in
    let is = c.self.invariant.0 in
    subst IsLawful c.self.view_is (lawful (history in'.front in'.max_steps in'.told in'.ran in'.trace) is.world is.true_in)

pub returns-clause-table : goal.returns-clause-table
returns-clause-table g c = subst (λ (h : HistoryView). h.front.table ≡ g.T.Tabled.table) c.self.view_is c.self.invariant.0.table

pub returns-clause-within : goal.returns-clause-within
returns-clause-within g c =
    subst (λ (h : HistoryView). length h.steps ≤ h.max_steps) c.self.view_is (let within = c.self.invariant.0.within in omega arith)

pub returns-clause-few : goal.returns-clause-few
returns-clause-few g c = subst (λ (h : HistoryView). h.max_steps ≤ GREATEST_STEPS) c.self.view_is c.self.invariant.0.few

pub returns-clause-layers : goal.returns-clause-layers
returns-clause-layers g c = subst (λ (h : HistoryView). h.front.layers ≡ length h.ran) c.self.view_is c.self.invariant.0.true_in.layers
