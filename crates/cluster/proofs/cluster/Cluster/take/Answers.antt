use Rattle.cluster.proofs.Seats.{cluster_taken, room_still}
use Rattle.cluster.proofs.cluster.Cluster.take.Goals as goal

pub invariant_of-self : goal.invariant_of-self
invariant_of-self g c = (
  cluster_taken c.self.invariant.0 c.take.new.self c.take.result c.take.ensures.taken c.take.ensures.unchanged,
  room_still c.self.invariant.1 c.take.new.self _ _ c.take.ensures.room,
)
