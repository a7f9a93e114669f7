use Rattle.std.proofs.Common.{subst}
use Rattle.front.proofs.Refusals.{stands_closed, open_admitted}
use Rattle.front.proofs.Views.{seen}
use Rattle.front.specs.Refusing.{Refuses, RefusesNot}
use Rattle.journal.specs.declared.step.Step.TheVariants.{Collect, Close}
use Rattle.router.specs.Router.{connection}
use Rattle.router.specs.Submitting.{IsRefused}
use Rattle.world.specs.Steps.{NoConn}
use Rattle.front.proofs.front.Front.collect_fault.Goals as goal

pub returns-in-Ok-clause-none : goal.returns-in-Ok-clause-none
returns-in-Ok-clause-none c =
    let idle = c.in-Ok.ensures.may in
    subst (λ f. RefusesNot f (Collect c.args.conn) × RefusesNot f (Close c.args.conn)) c.self.view_is
    (open_admitted (seen c.self.inside) c.args.conn idle.was idle.kept idle.live)

pub returns-in-Err-Busy-clause-none : goal.returns-in-Err-Busy-clause-none
returns-in-Err-Busy-clause-none c =
    let busy = subst (IsRefused (connection c.self.inside.router c.args.conn.0)) c.in-Err-Busy.field-0-is
    c.in-Err-Busy.ensures.may_not.1 in
    subst (λ f. RefusesNot f (Collect c.args.conn) × RefusesNot f (Close c.args.conn)) c.self.view_is
    (open_admitted (seen c.self.inside) c.args.conn busy.was busy.kept busy.live)

pub returns-in-Err-NoConn-clause-some : goal.returns-in-Err-NoConn-clause-some
returns-in-Err-NoConn-clause-some c =
    let refused = subst (IsRefused (connection c.self.inside.router c.args.conn.0)) c.in-Err-NoConn.field-0-is
    c.in-Err-NoConn.ensures.may_not.1 in
    let shut = stands_closed (seen c.self.inside) c.args.conn.0 refused in
    subst (λ f. Refuses f (Collect c.args.conn) NoConn × Refuses f (Close c.args.conn) NoConn) c.self.view_is (shut, shut)
