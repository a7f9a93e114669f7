use Rattle.std.proofs.Common.{subst}
use Rattle.skeen_core.specs.Proposals.{CountsNamed}
use Rattle.skeen_core.proofs.ProposalLists.{counted}
use Rattle.skeen_core.proofs.proposals.Proposals.len.Goals as goal

pub returns : goal.returns
returns c = subst (λ m. CountsNamed m c.len.result) c.self.view_is
    (counted c.self.inside.lists.entries c.len.result c.self.invariant c.len.ensures.len)
