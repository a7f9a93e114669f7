use Rattle.std.proofs.Common.{rules, ◌≡◌, ◌∙◌, Some, ap}
use Rattle.router.specs.Router.{connection, session_at}
use Rattle.router.proofs.router.Router.settle.Goals as goal

pub returns-else-connection : goal.returns-else-connection
returns-else-connection c =
    let was = c.in-Some.connection.now in
    let kept : connection c.args.self.now c.args.outcome.id.conn.0 ≡ Some was = search rules in (
      was,
      kept,
      record {
        opened = search rules;
        at = rw c.if-connection.false (search rules);
        sessions = c.forget.ensures.sessions ∙ ap session_at c.self.view_is;
      },
    )
