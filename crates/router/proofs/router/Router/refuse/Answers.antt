use Rattle.std.proofs.Common.{◌≡◌, Err, ◌∙◌, ap, subst, sym}
use Rattle.command_table.specs.Reading.{reading}
use Rattle.resp.proofs.Contents.{content-Error}
use Rattle.resp.specs.Content.{ErrorLine, content}
use Rattle.resp.specs.declared.reply.Reply.TheVariants as reply
use Rattle.sessions.specs.Session.{Now, asks, plain}
use Rattle.sessions.specs.declared.session.Session.TheVariants.{Free}
use Rattle.worded.specs.Faults.{IsFault}
use Rattle.router.proofs.Queuing.{plain_asked}
use Rattle.router.proofs.Standings.{told_now}
use Rattle.router.proofs.router.Router.refuse.Goals as goal

pub returns-in-Refused-clause-answered : goal.returns-in-Refused-clause-answered
returns-in-Refused-clause-answered c = λ t words alone fault.
    let refused : reading words ≡ Err c.in-Refused.refusal = subst (IsFault words) c.in-Refused.is fault in
    let said : (asks Free words).1 ≡ Now (content (reply.Error c.text.result)) =
    ap (λ s. s.1) (plain_asked words alone.1) ∙ ap plain refused ∙ ap (λ text. Now (ErrorLine text)) (sym c.text.ensures)
    ∙ ap Now (sym (content-Error c.text.result)) in
    c.answer.ensures t words alone (told_now t c.answer.result.id (asks Free words).1 (reply.Error c.text.result) said)
