use Rattle.std.proofs.Common.{refl, sym, subst}
use Rattle.command_cases.specs.Case.{at_key}
use Rattle.command_cases.specs.TextPlan.{IsPlanFor}
use Rattle.list_commands.specs.ListCommand.{at_list, pop_step, list_command_case}
use Rattle.list_commands.proofs.Leaves.{leaves-lindex, leaves-lrange}
use Rattle.list_commands.proofs.Short.{answers_short}
use Rattle.texts.specs.declared.text_list.End.TheVariants.{Head, Tail}
use Rattle.list_commands.proofs.text_plan.list_text_plan.Goals as goal

pub returns-in-Lindex : goal.returns-in-Lindex
returns-in-Lindex g c = rw c.in-Lindex.is (leaves-lindex c.in-Lindex.key c.in-Lindex.place _)

pub returns-in-Lrange : goal.returns-in-Lrange
returns-in-Lrange g c = rw c.in-Lrange.is (leaves-lrange c.in-Lrange.key c.in-Lrange.start c.in-Lrange.end _)

pub returns-in-Lpop : goal.returns-in-Lpop
returns-in-Lpop g c =
    let m = g.K.Keyspace.contents c.args.keyspace.now in
    let case = at_key c.in-Lpop.key (at_list (pop_step Head)) in
    subst (λ command. IsPlanFor (list_command_case command) m c.plan_for_end.result)
    (sym c.in-Lpop.is) (c.plan_for_end.ensures case refl)

pub returns-in-Rpop : goal.returns-in-Rpop
returns-in-Rpop g c =
    let m = g.K.Keyspace.contents c.args.keyspace.now in
    let case = at_key c.in-Rpop.key (at_list (pop_step Tail)) in
    subst (λ command. IsPlanFor (list_command_case command) m c.plan_for_end-in-Rpop.result)
    (sym c.in-Rpop.is) (c.plan_for_end-in-Rpop.ensures case refl)

pub returns-in-Lmove : goal.returns-in-Lmove
returns-in-Lmove g c =
    let m = g.K.Keyspace.contents c.args.keyspace.now in
    subst (λ command. IsPlanFor (list_command_case command) m c.plan_for_move.result)
    (sym c.in-Lmove.is) (c.plan_for_move.ensures c.in-Lmove.put)

pub returns-in-Rpoplpush : goal.returns-in-Rpoplpush
returns-in-Rpoplpush g c =
    let m = g.K.Keyspace.contents c.args.keyspace.now in
    subst (λ command. IsPlanFor (list_command_case command) m c.plan_for_move-in-Rpoplpush.result)
    (sym c.in-Rpoplpush.is) (c.plan_for_move-in-Rpoplpush.ensures Head)

pub returns-in_default : goal.returns-in_default
returns-in_default g c =
    let d = c.in_default in
    answers_short c.args.command.now (g.K.Keyspace.contents c.args.keyspace.now)
    d.not-Lindex d.not-Lrange d.not-Lpop d.not-Rpop d.not-Lmove d.not-Rpoplpush
