use Rattle.cluster.proofs.Effects.{opens}
use Rattle.cluster.proofs.Seats.{cluster_sat, cluster_still, room_still, room_sat}
use Rattle.cluster.proofs.cluster.Cluster.sit.Goals as goal

pub invariant_of-self-2 : goal.invariant_of-self-2
invariant_of-self-2 g c = (
  cluster_sat c.self.invariant.0 c.make.new.self c.split_off.new.self.parts c.split_off.new.self.amount c.in-Ok.ensures.made
      c.split_off.ensures.parts_left,
  room_sat c.self.invariant.1 c.make.new.self c.split_off.new.self.amount c.in-Some.ensures.1 c.in-Ok.ensures.room,
)

pub unreachable-requires : goal.unreachable-requires
unreachable-requires g c =
    let some = opens _ _ c.in-Ok.effect c.in-Ok.ensures.made in
    c.in_default-effect.not-Opened some.0 some.1

pub invariant_of-self : goal.invariant_of-self
invariant_of-self g c = (
  cluster_still c.self.invariant.0 c.make.new.self c.in-Err.ensures.unchanged,
  room_still c.self.invariant.1 c.make.new.self _ _ (c.in-Err.ensures.room_back c.self.inside.kept),
)
