use Rattle.std.proofs.Common.{refl}
use Rattle.shared_cluster.proofs.Collecting.{gives_of}
use Rattle.shared_cluster.proofs.Hands.{given_left, settled_none}
use Rattle.shared_cluster.proofs.shared.Shared.settle_and_look.Goals as goal

pub returns-in-Some-clause-settled : goal.returns-in-Some-clause-settled
returns-in-Some-clause-settled g c =
    (given_left c.args.ran c.in-Some.ran c.in-Ok.left c.in-Ok.ensures.given c.in-Some.is, refl)

pub returns-in-Ok-collect_there-clause-settled : goal.returns-in-Ok-collect_there-clause-settled
returns-in-Ok-collect_there-clause-settled g c =
    gives_of g.T.Tabled.table c.args.ran c.args.seat.now c.collect_there.new.seat c.in-Ok-collect_there.reply
    (settled_none c.args.ran c.in-Ok.left c.in-Ok.ensures.settled c.in-None.is) c.in-Ok-collect_there.ensures.replied
    c.in-Ok-collect_there.ensures.unasked
