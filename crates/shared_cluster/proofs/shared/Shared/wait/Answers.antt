use Rattle.std.proofs.Common.{inl, subst}
use Rattle.cluster.specs.Clusters.{SeatView}
use Rattle.resp.specs.Content.{content}
use Rattle.shared_cluster.proofs.Collecting.{collected_there}
use Rattle.shared_cluster.specs.Asks.{IsCollected, IsCollectFault}
use Rattle.shared_cluster.proofs.shared.Shared.wait.Goals as goal

pub returns-in-Err-clause-refused : goal.returns-in-Err-clause-refused
returns-in-Err-clause-refused g c =
    let held = c.deref_mut.result.now in
    subst (λ s. IsCollectFault s c.in-Err.fault) c.loop.invariant.2 (inl (held.stopped, held.cluster.history, c.in-Err.ensures.refused))

pub returns-in-Ok-Some-clause-replied : goal.returns-in-Ok-Some-clause-replied
returns-in-Ok-Some-clause-replied g c =
    subst (λ (s : SeatView). IsCollected _ s (content c.in-Ok-Some.reply.reply) c.collect.new.seat) c.loop.invariant.2
    (collected_there g.T.Tabled.table c.deref_mut.result.now.cluster.history c.collect.new.self.cluster.history c.loop.seat
    c.collect.new.seat c.in-Ok-Some.field-0 c.in-Ok-Some.reply c.in-Ok-Some.field-0-is c.in-Ok-Some.ensures.answered)
