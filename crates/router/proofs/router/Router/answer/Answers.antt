use Rattle.std.proofs.Common.{[], Some, None, subst, sym}
use Rattle.router.specs.Router.{Changes}
use Rattle.router.specs.Submitting.{SubmitsAndTakes}
use Rattle.router.proofs.Alone.{next, stands, sends, answers_alone}
use Rattle.router.proofs.router.Router.answer.Goals as goal

pub returns : goal.returns
returns c = λ t words alone tells.
    let old = c.args.self.now in let conn = c.args.conn in let idle = c.args.idle in let new = c.put.new.self in
    let now = subst (λ s. Changes old new conn.0 (Some (stands idle s))) c.answered.ensures c.put.ensures in
    subst (λ groups. SubmitsAndTakes t conn.0 words old (sends conn idle groups) [] new) (sym c.empty-groups.ensures)
    (answers_alone t conn words old idle c.requires.idle alone new
    (record { id = next conn idle; reply = c.args.reply; stamp = None }) now tells)
