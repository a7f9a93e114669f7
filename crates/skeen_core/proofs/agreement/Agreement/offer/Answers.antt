use Rattle.std.proofs.Common.{rules, sym, ap, ◌∙◌}
use Rattle.std.proofs.lemmas.List.{nil_from_length}
use Rattle.std.specs.FinMap.{get}
use Rattle.skeen_core.proofs.Fronts.{started-state_of}
use Rattle.skeen_core.specs.Group.{GroupView}
use Rattle.skeen_core.specs.Kept.{groups_in}
use Rattle.skeen_core.proofs.agreement.Agreement.offer.Goals as goal

pub returns-clause-none_started : goal.returns-clause-none_started
returns-clause-none_started c = λ i.
    let g = c.self.inside in
    let none = nil_from_length g.pending.entries (search rules) in
    sym (ap (λ (v : GroupView). get v.state.started i) c.self.view_is)
    ∙ started-state_of g.clock g.pending.entries g.proposals i ∙ ap (λ (es : _). groups_in es i) none
