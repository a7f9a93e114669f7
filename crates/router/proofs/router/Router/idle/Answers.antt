use Rattle.std.proofs.Common.{rules, ◌≡◌, Some, refl}
use Rattle.router.specs.Router.{connection}
use Rattle.router.proofs.router.Router.idle.Goals as goal

pub returns-in-Idle-clause-idle : goal.returns-in-Idle-clause-idle
returns-in-Idle-clause-idle c =
    let kept : connection c.args.self.now c.args.conn.0 ≡ Some c.in-Some.connection.now = search rules in
    record {
      idle = record { was = c.in-Some.connection.now; kept = kept; live = c.if-not-connection.false; idle = c.in-Idle.is };
      seq = refl;
      floor = refl;
    }
