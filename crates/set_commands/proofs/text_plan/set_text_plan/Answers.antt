use Rattle.set_commands.specs.SetCommand.{smismember_answer, smembers_answer}
use Rattle.set_commands.proofs.Leaves.{leaves-looks_at_set}
use Rattle.set_commands.proofs.Short.{answers_short}
use Rattle.set_commands.proofs.text_plan.set_text_plan.Goals as goal

pub returns-in-Smismember : goal.returns-in-Smismember
returns-in-Smismember c = rw c.in-Smismember.is (leaves-looks_at_set c.in-Smismember.key (smismember_answer c.in-Smismember.members))

pub returns-in-Smembers : goal.returns-in-Smembers
returns-in-Smembers c = rw c.in-Smembers.is (leaves-looks_at_set c.in-Smembers.key smembers_answer)

pub returns-in_default : goal.returns-in_default
returns-in_default c =
    let d = c.in_default in
    λ m. answers_short c.args.command.now m d.not-Smismember d.not-Smembers d.not-Sinter d.not-Sunion d.not-Sdiff
