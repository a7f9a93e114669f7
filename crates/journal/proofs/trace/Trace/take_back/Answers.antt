use Rattle.std.proofs.Common.{ap, ◌∙◌}
use Rattle.journal.proofs.Places.{takes_back_of}
use Rattle.journal.proofs.trace.Trace.take_back.Goals as goal

pub invariant_of-self : goal.invariant_of-self
invariant_of-self c =
    let seen = ap (λ v. v.steps) c.self.view_is in let r = c.requires in
    rw c.truncate.ensures.items (takes_back_of r.0 r.0 r.1 r.1 _ _ _ _ _ c.self.invariant (seen ∙ r.2) r.3 (seen ∙ r.2)).are

pub returns-clause-steps : goal.returns-clause-steps
returns-clause-steps c front last split =
    let seen = ap (λ v. v.steps) c.self.view_is in let r = c.requires in
    rw c.truncate.ensures.items (takes_back_of r.0 front r.1 last _ _ _ _ _ c.self.invariant (seen ∙ r.2) r.3 (seen ∙ split)).steps
