use Rattle.shared_cluster.proofs.Taking.{takes_ready}
use Rattle.shared_cluster.proofs.held.Held.may_take.Goals as goal

pub returns : goal.returns
returns g c =
    takes_ready c.args.self.now.cluster.history c.front-front.result.now c.is_out.result c.has_ready.result c.front-front.ensures
    c.is_out.ensures c.if-is_out.false c.has_ready.ensures
