use Rattle.std.proofs.Common.{◌≡◌, ◌∙◌, sym, subst}
use Rattle.std.specs.FinMap.{len}
use Rattle.skeen_core.specs.Group.{GroupView}
use Rattle.skeen_core.proofs.Fronts.{len-started}
use Rattle.skeen_core.proofs.agreement.Agreement.started.Goals as goal

pub returns-clause-count : goal.returns-clause-count
returns-clause-count c =
    let g = c.self.inside in
    let placed = c.self.invariant.placed in
    subst (λ (v : GroupView). c.len.result ≡ len v.state.started) c.self.view_is
    (c.len.ensures.len ∙ sym (len-started g.clock g.pending.entries g.proposals placed.rise placed.once))
