use Rattle.std.proofs.Common.{◌≤◌, sym, subst}
use Rattle.skeen_core.proofs.Lawful.{kept_raised}
use Rattle.skeen_core.specs.Group.{GroupView}
use Rattle.skeen_core.proofs.agreement.Agreement.raise.Goals as goal

pub invariant_of-self : goal.invariant_of-self
invariant_of-self c =
    let g = c.self.inside in
    kept_raised g.id g.clock c.args.clock g.pending.entries g.proposals
    (subst (λ (v : GroupView). v.state.clock ≤ c.args.clock) (sym c.self.view_is) c.requires) c.self.invariant
