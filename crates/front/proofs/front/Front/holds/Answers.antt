use Rattle.front.proofs.Running.{sees_no_run}
use Rattle.front.proofs.front.Front.holds.Goals as goal

pub returns-clause-no_run : goal.returns-clause-no_run
returns-clause-no_run c = sees_no_run c.args.self.now
