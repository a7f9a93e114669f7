use Rattle.std.proofs.Common.{◌∙◌, [], None, Ok, refl, ap, subst, sym}
use Rattle.command_table.specs.declared.command.Command.TheVariants.{Local}
use Rattle.command_table.specs.declared.local_commands.LocalCommand.TheVariants.{Ping}
use Rattle.placement.proofs.Addressed.{chosen-none}
use Rattle.router.specs.Submitting.{TellsOf}
use Rattle.sessions.specs.Session.{Answer, plain}
use Rattle.sessions.specs.declared.batch.Batch.TheVariants.{Plain}
use Rattle.router.proofs.Queuing.{plain_asked}
use Rattle.router.proofs.Standings.{at_once, told_at_once}
use Rattle.router.proofs.asking.ask_plain.Goals as goal

pub returns-then-is_ping : goal.returns-then-is_ping
returns-then-is_ping c =
    let table = c.args.table.now in let id = c.args.id in let reply = c.local-reply.result in
    let asked = ap (λ s. s.1) (plain_asked c.args.words c.requires) ∙ ap plain (c.is_ping.ensures c.if-is_ping.true) in
    let told = told_at_once table id (Plain (Local (Ping None))) reply [] refl c.local-reply.ensures
    (sym (chosen-none 0 table.shards)) in
    subst (λ (answer : Answer). TellsOf table id answer (c.answered.result, c.empty.result)) (sym asked)
    (subst (λ standing. TellsOf table id (plain (Ok (Local (Ping None)))) (standing, c.empty.result)) (sym c.answered.ensures)
    (subst (λ groups. TellsOf table id (plain (Ok (Local (Ping None)))) (at_once id reply, groups)) (sym c.empty.ensures) told))
