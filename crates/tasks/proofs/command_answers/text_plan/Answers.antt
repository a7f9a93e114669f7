use Rattle.std.proofs.Common.{sym, subst}
use Rattle.tasks.specs.Command.{case_of}
use Rattle.command_cases.specs.TextPlan.{IsPlanFor}
use Rattle.key_commands.proofs.Short.{answers_short}
use Rattle.resp.specs.LongText.{IsShort}
use Rattle.tasks.proofs.command_answers.text_plan.Goals as goal

pub returns-in-Key : goal.returns-in-Key
returns-in-Key g c =
    let m = g.K.Keyspace.contents c.args.keyspace.now in
    subst (λ command. IsShort (case_of command m).1) (sym c.in-Key.is) (answers_short c.in-Key._command m)

pub returns-in-Hash : goal.returns-in-Hash
returns-in-Hash g c =
    let m = g.K.Keyspace.contents c.args.keyspace.now in
    subst (λ command. IsPlanFor (case_of command) m c.hash_text_plan.result) (sym c.in-Hash.is) (c.hash_text_plan.ensures m)

pub returns-in-Set : goal.returns-in-Set
returns-in-Set g c =
    let m = g.K.Keyspace.contents c.args.keyspace.now in
    subst (λ command. IsPlanFor (case_of command) m c.set_text_plan.result) (sym c.in-Set.is) (c.set_text_plan.ensures m)
