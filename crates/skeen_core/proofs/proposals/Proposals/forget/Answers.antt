use Rattle.std.proofs.Common.{None, not, ap, ◌∙◌}
use Rattle.std.specs.FinMap.{retain_keys}
use Rattle.groups.specs.Request.{same_id}
use Rattle.skeen_core.proofs.ProposalLists.{Changed, forgot, lists_changed}
use Rattle.skeen_core.proofs.proposals.Proposals.forget.Goals as goal
use Rattle.skeen_core.proofs.proposals.Proposals.forget.Goals.{After-remove}

taken : (c : After-remove) → Changed c.args.id None c.self.inside.lists.entries c.remove.new.self.entries
taken c = record { once = c.remove.ensures.unique; at = c.remove.ensures.updates.0 }

pub invariant_of-self : goal.invariant_of-self
invariant_of-self c = lists_changed c.args.id None c.self.inside.lists.entries _ c.self.invariant
    (taken (goal.at.invariant_of-self c).After-remove) (λ ps e. absurd (cc))

pub returns : goal.returns
returns c = forgot c.args.id c.self.inside.lists.entries _ c.self.invariant (taken (goal.at.returns c).After-remove)
    ∙ ap (λ m. retain_keys m (λ s. not (same_id c.args.id s.id))) c.self.view_is
