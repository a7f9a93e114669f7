use Rattle.command_cases.proofs.Apart.{answers_commute, contents_commute}
use Rattle.command_cases.proofs.apart_commute.Goals as goal

pub returns-clause-answers : goal.returns-clause-answers
returns-clause-answers c = answers_commute

pub returns-clause-contents : goal.returns-clause-contents
returns-clause-contents c = contents_commute
