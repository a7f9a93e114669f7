use Rattle.tasks.proofs.Effects.{commands_answer, commands_leave}
use Rattle.tasks.proofs.commands.commands_commute.Goals as goal

pub returns-clause-answers : goal.returns-clause-answers
returns-clause-answers c = commands_answer

pub returns-clause-contents : goal.returns-clause-contents
returns-clause-contents c = commands_leave
