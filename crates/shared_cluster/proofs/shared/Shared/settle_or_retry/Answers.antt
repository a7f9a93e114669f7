use Rattle.shared_cluster.proofs.Hands.{given_left, settled_none, settled_again, given_again}
use Rattle.shared_cluster.proofs.shared.Shared.settle_or_retry.Goals as goal

pub returns-in-Some-clause-settled : goal.returns-in-Some-clause-settled
returns-in-Some-clause-settled g c =
    settled_again c.args.ran c.in-Some.ran c.settle_once-in-Some.result
    (given_left c.args.ran c.in-Some.ran c.in-Ok.left c.in-Ok.ensures.given c.in-Some.is) c.settle_once-in-Some.ensures.settled

pub returns-in-Some-clause-given : goal.returns-in-Some-clause-given
returns-in-Some-clause-given g c =
    given_again c.args.ran c.in-Some.ran c.settle_once-in-Some.result
    (given_left c.args.ran c.in-Some.ran c.in-Ok.left c.in-Ok.ensures.given c.in-Some.is) c.settle_once-in-Some.ensures.given

pub returns-in-None-clause-settled : goal.returns-in-None-clause-settled
returns-in-None-clause-settled g c = settled_none c.args.ran c.in-Ok.left c.in-Ok.ensures.settled c.in-None.is
