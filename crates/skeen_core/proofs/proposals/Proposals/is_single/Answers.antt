use Rattle.std.proofs.Common.{◌≡◌, ◌↔◌, IsTrue, Some, subst}
use Rattle.std.specs.FinMap.{get}
use Rattle.groups.specs.declared.request.RequestId.{RequestId}
use Rattle.skeen_core.proofs.ProposalLists.{source, single_is}
use Rattle.skeen_core.proofs.proposals.Proposals.is_single.Goals as goal

pub returns : goal.returns
returns c = subst
    (λ m. IsTrue c.are_single.result ↔ ((i : RequestId) → get m (source i c.args.from) ≡ Some c.args.clock → i ≡ c.args.id)) c.self.view_is
    (single_is c.self.inside.lists.entries c.args.id c.args.from c.args.clock c.are_single.result c.self.invariant c.are_single.ensures)
