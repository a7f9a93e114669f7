use Rattle.std.proofs.Common.{◌≡◌, ap, subst}
use Rattle.cluster.specs.Histories.{HistoryView, IsLawful}
use Rattle.cluster.proofs.cluster.Cluster.lawful.Goals as goal

pub returns-clause-lawful : goal.returns-clause-lawful
returns-clause-lawful g c = subst IsLawful (ap (λ v. v.history) c.self.view_is) c.lawful.ensures.lawful

pub returns-clause-table : goal.returns-clause-table
returns-clause-table g c =
    subst (λ (h : HistoryView). h.front.table ≡ g.T.Tabled.table) (ap (λ v. v.history) c.self.view_is) c.lawful.ensures.table
