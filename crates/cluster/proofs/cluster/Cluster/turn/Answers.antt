use Rattle.cluster.proofs.Seats.{cluster_turned, room_still}
use Rattle.cluster.proofs.cluster.Cluster.turn.Goals as goal

pub invariant_of-self : goal.invariant_of-self
invariant_of-self g c = (
  cluster_turned c.self.invariant.0 c.turn.new.self (g.P.Pick.picks c.args.pick.now) c.turn.result c.turn.ensures.made
      c.turn.ensures.unmade c.turn.ensures.unchanged,
  room_still c.self.invariant.1 c.turn.new.self _ _ c.turn.ensures.room,
)
