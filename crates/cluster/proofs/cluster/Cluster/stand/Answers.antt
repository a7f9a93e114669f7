use Rattle.std.proofs.Common.{◌+◌, ap, ◌∙◌, arith}
use Rattle.cluster.proofs.Seats.{cluster_stood, some_kept, room_stood}
use Rattle.cluster.proofs.Tapes.{room_less}
use Rattle.cluster.proofs.cluster.Cluster.stand.Goals as goal

pub overflow_sub-self : goal.overflow_sub-self
overflow_sub-self g c =
    let in' = c.self.inside in
    let some = some_kept c.self.invariant.0 c.self.invariant.1 c.merge.new.self.parts
    (c.merge.ensures.parts ∙ ap (λ n. in'.pool.parts + n) c.seat.invariant.1) c.merge.ensures.apart in
    omega arith

pub close-requires : goal.close-requires
close-requires g c = room_less c.self.inside.history.trace _ c.self.inside.kept (omega arith) c.self.invariant.1.room

pub invariant_of-self : goal.invariant_of-self
invariant_of-self g c =
    let in' = c.self.inside in (
      cluster_stood c.self.invariant.0 c.close.new.history c.merge.new.self.parts c.merge.new.self.amount c.seat.inside.conn
          c.close.ensures.closed (c.merge.ensures.parts ∙ ap (λ n. in'.pool.parts + n) c.seat.invariant.1),
      room_stood c.self.invariant.1 c.close.new.history c.merge.new.self.amount (omega arith) c.close.ensures.room,
    )
