use Rattle.shared_cluster.proofs.Hands.{idle_is_free, if_some, if_none}
use Rattle.shared_cluster.proofs.shared.Shared.drive_once.Goals as goal

pub returns-in-Quiet-clause-free : goal.returns-in-Quiet-clause-free
returns-in-Quiet-clause-free g c =
    if_some c.rest_or_wait.result
    (idle_is_free _ _ _ c.args.hand.now c.advance.new.hand c.in-Ok.turn c.in-Ok.ensures.made c.in-Quiet.is)

pub returns-in-Quiet-clause-goes_on : goal.returns-in-Quiet-clause-goes_on
returns-in-Quiet-clause-goes_on g c =
    if_none c.rest_or_wait.result (record { pick = _; may_refuse = _; which = c.in-Ok.turn; turns = c.in-Ok.ensures.made })

pub returns-in-Starved-clause-goes_on : goal.returns-in-Starved-clause-goes_on
returns-in-Starved-clause-goes_on g c = record { pick = _; may_refuse = _; which = c.in-Ok.turn; turns = c.in-Ok.ensures.made }

pub returns-in-Made-clause-goes_on : goal.returns-in-Made-clause-goes_on
returns-in-Made-clause-goes_on g c = record { pick = _; may_refuse = _; which = c.in-Ok.turn; turns = c.in-Ok.ensures.made }
