use Rattle.std.proofs.Common.{sym, ap, ◌∙◌}
use Rattle.std.specs.FinMap.{get}
use Rattle.skeen_core.specs.Heard.{clock_of}
use Rattle.skeen_core.proofs.ProposalLists.{source, or_empty, get_shown}
use Rattle.skeen_core.proofs.proposals.Proposals.of.Goals as goal

pub returns-in-Some : goal.returns-in-Some
returns-in-Some c = λ g.
    ap (λ l. clock_of l g) c.as_slice.ensures
    ∙ ap (λ o. clock_of (or_empty o) g) (c.in-Some.ensures.value)
    ∙ sym (get_shown c.self.inside.lists.entries c.args.id g c.self.invariant.once) ∙ ap (λ m. get m (source c.args.id g)) c.self.view_is

pub returns-in-None : goal.returns-in-None
returns-in-None c = λ g.
    ap (λ o. clock_of (or_empty o) g) c.in-None.ensures.value
    ∙ sym (get_shown c.self.inside.lists.entries c.args.id g c.self.invariant.once) ∙ ap (λ m. get m (source c.args.id g)) c.self.view_is
