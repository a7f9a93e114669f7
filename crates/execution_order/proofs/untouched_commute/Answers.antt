use Rattle.execution_order.proofs.Untouched as untouched
use Rattle.execution_order.proofs.untouched_commute.Goals as goal

pub returns : goal.returns
returns c = untouched.untouched_commute
