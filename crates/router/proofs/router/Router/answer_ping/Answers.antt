use Rattle.std.proofs.Common.{[], None, ◌∙◌, refl, ap, subst, sym}
use Rattle.command_table.specs.declared.command.Command.TheVariants.{Local}
use Rattle.command_table.specs.declared.local_commands.LocalCommand.TheVariants.{Ping}
use Rattle.placement.proofs.Addressed.{chosen-none}
use Rattle.router.specs.Submitting.{TellsOf}
use Rattle.sessions.specs.Session.{plain}
use Rattle.sessions.specs.declared.batch.Batch.TheVariants.{Plain}
use Rattle.router.proofs.Queuing.{plain_asked}
use Rattle.router.proofs.Standings.{at_once, told_at_once}
use Rattle.router.proofs.router.Router.answer_ping.Goals as goal

pub returns : goal.returns
returns c = λ t words alone reads.
    let id = c.answer.result.id in let reply = c.local.result in
    let asked = ap (λ s. s.1) (plain_asked words alone.1) ∙ ap plain reads in
    c.answer.ensures t words alone
    (subst (λ answer. TellsOf t id answer (at_once id reply, [])) (sym asked)
    (told_at_once t id (Plain (Local (Ping None))) reply [] refl c.local.ensures (sym (chosen-none 0 t.shards))))
