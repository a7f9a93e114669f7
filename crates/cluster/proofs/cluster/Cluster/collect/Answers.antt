use Rattle.std.proofs.Common.{refl, subst}
use Rattle.cluster.proofs.Seats.{cluster_still, cluster_other, room_still}
use Rattle.cluster.specs.Answers.{IsReplied}
use Rattle.cluster.specs.Clusters.{ClusterView}
use Rattle.cluster.proofs.cluster.Cluster.collect.Goals as goal

pub take_outcome-requires : goal.take_outcome-requires
take_outcome-requires g c = c.in-Ok.ensures.some c.if-not-some.false

pub invariant_of-self : goal.invariant_of-self
invariant_of-self g c = (
  cluster_still c.self.invariant.0 c.take_outcome.new.history c.in-Err-take_outcome.ensures.unchanged.0,
  room_still c.self.invariant.1 c.take_outcome.new.history _ _ c.in-Err-take_outcome.ensures.room,
)

pub invariant_of-self-2 : goal.invariant_of-self-2
invariant_of-self-2 g c = (
  cluster_other c.self.invariant.0 c.take_outcome.new.history c.in-Ok-take_outcome.ensures.taken.made refl,
  room_still c.self.invariant.1 c.take_outcome.new.history _ _ c.in-Ok-take_outcome.ensures.room,
)

pub returns-clause-replied : goal.returns-clause-replied
returns-clause-replied g c =
    subst (λ (v : ClusterView). IsReplied v.history c.args.seat.now c.in-Ok-take_outcome.outcome.reply c.take_outcome.new.history
    c.take_outcome.new.seat) c.self.view_is c.in-Ok-take_outcome.ensures.taken
