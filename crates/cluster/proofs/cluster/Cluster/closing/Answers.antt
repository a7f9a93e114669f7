use Rattle.std.proofs.Common.{◌≡◌, length, ap, sym, ◌∙◌, subst}
use mathlib.Core.List.{IsPrefix}
use Rattle.cluster.proofs.Endings.{right, all_of_store}
use Rattle.cluster.specs.Clusters.{ClusterView}
use Rattle.cluster.specs.Endings.{IsRight}
use Rattle.cluster.specs.Histories.{IsLawful}
use Rattle.front.specs.Fronts.{FrontView}
use Rattle.placement.specs.Layout.{IsTable}
use Rattle.cluster.proofs.cluster.Cluster.closing.Goals as goal

pub returns-clause-lawful : goal.returns-clause-lawful
returns-clause-lawful g c = subst IsLawful (ap (λ v. v.history) c.self.view_is) c.lawful.ensures.lawful

pub returns-clause-right : goal.returns-clause-right
returns-clause-right g c =
    let h = c.self.inside.history in
    let table = subst (λ (f : FrontView). IsTable f.table) c.front-front.ensures c.holds.ensures.is_front.is_table in
    let begins = subst (λ l. IsPrefix l c.args.store.now.runs) c.ran.ensures
    (subst (λ l. IsPrefix c.ran.result.now l) c.part.ensures c.begins-2.ensures) in
    let many : length h.ran ≡ length c.args.store.now.runs =
    sym c.lawful.ensures.layers ∙ ap (λ (f : FrontView). f.layers) (sym c.front-front.ensures) ∙ sym c.layers.ensures
    ∙ c.if-layers-count.false ∙ c.count.ensures in
    subst (λ h. IsRight h c.args.store.now) (ap (λ (v : ClusterView). v.history) c.self.view_is)
    (right g.T.Tabled.table h c.args.store.now table c.lawful.ensures.table c.lawful.ensures.lawful c.lawful-2.ensures
    (all_of_store h.ran c.args.store.now.runs begins many))
