use Rattle.std.proofs.Common.{[], ◌∙◌, ap, subst, sym}
use Rattle.std.specs.FinMap.{empty}
use Rattle.tasks.specs.Batch.{batch_effect}
use Rattle.router.specs.Submitting.{TellsOf}
use Rattle.router.proofs.Standings.{at_once, told_at_once}
use Rattle.router.proofs.router.Router.answer_keyless.Goals as goal

pub returns-in-Ok-clause-answered : goal.returns-in-Ok-clause-answered
returns-in-Ok-clause-answered c = λ t words alone asked none.
    let batch = c.args.asked.batch in let id = c.answer.result.id in
    let said = c.in-Ok.ensures.ok ∙ ap (λ b. (batch_effect [] b empty).1) c.into_parts-batch.ensures.batch in
    c.answer.ensures t words alone
    (subst (λ answer. TellsOf t id answer (at_once id c.in-Ok.reply, [])) (sym asked)
    (told_at_once t id batch c.in-Ok.reply [] c.requires.keyless said (sym none)))
