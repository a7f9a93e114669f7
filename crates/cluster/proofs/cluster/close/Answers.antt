use Rattle.std.proofs.Common.{◌+◌, inr, arith}
use Rattle.cluster.proofs.Sizes.{close_few}
use Rattle.cluster.proofs.Tapes.{room_less}
use Rattle.cluster.proofs.cluster.close.Goals as goal

pub returns-in-Err-clause-room : goal.returns-in-Err-clause-room
returns-in-Err-clause-room g c =
    room_less _ c.args.kept (c.args.kept + 10) (omega arith) (c.in-Err.ensures.room_back (c.args.kept + 10) c.requires)

pub returns-in-Err-clause-closed : goal.returns-in-Err-clause-closed
returns-in-Err-clause-closed g c =
    let refused = c.in-Err.ensures in
    inr (record {
      fault = c.in-Err._fault;
      why = refused.fault;
      ample = refused.wants (room_less c.args.history.now.trace _ (c.args.kept + 10) (omega (arith, close_few c.args.conn)) c.requires);
      unchanged = refused.unchanged;
    })
