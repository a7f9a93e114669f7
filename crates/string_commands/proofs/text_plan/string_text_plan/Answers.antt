use Rattle.std.proofs.Common.{sym, subst}
use Rattle.std.specs.FinMap.{get}
use Rattle.command_cases.specs.Case.{at_key}
use Rattle.command_cases.specs.TextPlan.{IsPlanFor}
use Rattle.string_commands.specs.StringCommand.{at_string, getset_string, getdel_string, string_command_case}
use Rattle.string_commands.proofs.Leaves.{leaves-get, leaves-getrange, getset-answers, getdel-answers}
use Rattle.string_commands.proofs.Short.{answers_short}
use Rattle.string_commands.proofs.text_plan.string_text_plan.Goals as goal

pub returns-in-Get : goal.returns-in-Get
returns-in-Get g c = rw c.in-Get.is (leaves-get c.in-Get.key _)

pub returns-in-Getrange : goal.returns-in-Getrange
returns-in-Getrange g c = rw c.in-Getrange.is (leaves-getrange c.in-Getrange.key c.in-Getrange.start c.in-Getrange.end _)

pub returns-in-Getset : goal.returns-in-Getset
returns-in-Getset g c =
    let m = g.K.Keyspace.contents c.args.keyspace.now in
    let case = at_key c.in-Getset.key (at_string (getset_string c.in-Getset.value)) in
    subst (λ command. IsPlanFor (string_command_case command) m c.plan_for_string.result)
    (sym c.in-Getset.is) (c.plan_for_string.ensures case (getset-answers c.in-Getset.value (get m c.in-Getset.key)))

pub returns-in-Getdel : goal.returns-in-Getdel
returns-in-Getdel g c =
    let m = g.K.Keyspace.contents c.args.keyspace.now in
    let case = at_key c.in-Getdel.key (at_string getdel_string) in
    subst (λ command. IsPlanFor (string_command_case command) m c.plan_for_string-in-Getdel.result)
    (sym c.in-Getdel.is) (c.plan_for_string-in-Getdel.ensures case (getdel-answers (get m c.in-Getdel.key)))

pub returns-in_default : goal.returns-in_default
returns-in_default g c =
    let d = c.in_default in
    answers_short c.args.command.now (g.K.Keyspace.contents c.args.keyspace.now)
    d.not-Get d.not-Mget d.not-Getrange d.not-Getset d.not-Getdel
