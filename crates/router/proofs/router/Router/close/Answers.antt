use Rattle.router.proofs.Turning.{closed_then}
use Rattle.router.proofs.router.Router.close.Goals as goal

pub returns-clause-closed : goal.returns-clause-closed
returns-clause-closed c =
    closed_then c.args.self.now c.shut.new.self c.drop_list.new.self c.args.conn.0 c.shut.ensures c.drop_list.ensures.opened
    c.drop_list.ensures.kept c.drop_list.ensures.sessions
