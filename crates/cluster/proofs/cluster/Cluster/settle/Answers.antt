use Rattle.cluster.proofs.Seats.{cluster_told, room_still}
use Rattle.cluster.proofs.cluster.Cluster.settle.Goals as goal

pub invariant_of-self : goal.invariant_of-self
invariant_of-self g c = (
  cluster_told c.self.invariant.0 c.settle.new.self c.args.ran.done c.settle.result c.settle.ensures.settled c.settle.ensures.unchanged,
  room_still c.self.invariant.1 c.settle.new.self _ _ c.settle.ensures.room,
)
