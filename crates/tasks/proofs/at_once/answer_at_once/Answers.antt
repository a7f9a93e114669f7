use Rattle.std.proofs.Common.{[], sym, ap, ◌∙◌, subst, ◌≡◌, false}
use Rattle.std.specs.FinMap.{empty}
use Rattle.resp.proofs.Contents.{content-Array}
use Rattle.resp.specs.Content.{Several, contents}
use Rattle.tasks.proofs.AtOnce.{keyless-exec, answered_at_once}
use Rattle.tasks.specs.Batch.{batch_effect}
use Rattle.tasks.specs.Keys.{looks_at_keys}
use Rattle.tasks.proofs.at_once.answer_at_once.Goals as goal

pub answer_members-requires-clause-keyless : goal.answer_members-requires-clause-keyless
answer_members-requires-clause-keyless c =
    keyless-exec c.in-Exec.members (subst (λ b. looks_at_keys b ≡ false) c.in-Exec.is c.requires.keyless) c.as_slice.ensures.keyed

pub returns-in-Ok-clause-ok : goal.returns-in-Ok-clause-ok
returns-in-Ok-clause-ok c =
    let keyless = keyless-exec c.in-Exec.members (subst (λ b. looks_at_keys b ≡ false) c.in-Exec.is c.requires.keyless)
    c.as_slice.ensures.keyed in
    content-Array c.answer_members.result
    ∙ ap (λ replies. Several (contents replies)) (c.answer_members.ensures ∙ sym (answered_at_once 1 c.in-Exec.members keyless))
    ∙ ap (λ b. (batch_effect [] b empty).1) (sym c.in-Exec.is)
