use Rattle.shared_cluster.proofs.Collecting.{gives_finished}
use Rattle.shared_cluster.proofs.shared.Shared.settle_or_collect.Goals as goal

pub returns-in-Ok-clause-settled : goal.returns-in-Ok-clause-settled
returns-in-Ok-clause-settled g c =
    gives_finished g.T.Tabled.table c.args.held.now.cluster.history c.finish.new.self.cluster.history c.args.ran c.args.seat.now
    c.finish.new.seat c.in-Ok.reply c.in-Ok.ensures.lawful c.in-Ok.ensures.finished
