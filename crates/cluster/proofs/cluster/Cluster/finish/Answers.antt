use Rattle.std.proofs.Common.{ap, ◌∙◌, subst}
use Rattle.cluster.proofs.Finishes.{cluster_finished, seat_finishes}
use Rattle.cluster.proofs.Seats.{room_still}
use Rattle.cluster.specs.Clusters.{ClusterView, SeatView}
use Rattle.cluster.specs.Finishing.{Finishes, HasFinished, IsFloorOf}
use Rattle.cluster.proofs.cluster.Cluster.finish.Goals as goal

pub invariant_of-self-2 : goal.invariant_of-self-2
invariant_of-self-2 g c = (
  cluster_finished c.self.invariant.0 c.finish.new.self c.args.ran.done c.seat.inside.seen c.in-Ok.reply c.in-Ok.ensures.finished,
  room_still c.self.invariant.1 c.finish.new.self _ _ c.in-Ok.ensures.room,
)

pub returns-clause-finished : goal.returns-clause-finished
returns-clause-finished g c =
    let old = c.self.inside.history in
    let new = c.finish.new.self in
    let s = c.args.seat.now in
    let done = c.args.ran.done in
    let has = subst (λ (x : SeatView). HasFinished old done x.seen c.in-Ok.reply new) c.seat.view_is c.in-Ok.ensures.finished in
    let is = subst (λ l. IsFloorOf s l c.in-Some.floor) (c.rows.ensures ∙ c.done.ensures) c.in-Some.ensures in
    let after : SeatView = record {
      conn = c.seat.inside.conn;
      floor = c.in-Some.floor;
      count = c.seat.inside.count;
      last = c.seat.inside.last;
      seen = c.part.result;
    } in
    subst (λ (v : ClusterView). Finishes v.history done s c.in-Ok.reply new after) c.self.view_is
    (seat_finishes old new s done c.in-Ok.reply c.in-Some.floor has is after (λ k. record {
      conn = ap (λ (x : SeatView). x.conn) c.seat.view_is k;
      floor = c.in-Some.floor;
      count = ap (λ (x : SeatView). x.count) c.seat.view_is k;
      last = ap (λ (x : SeatView). x.last) c.seat.view_is k;
      seen = c.part.ensures k;
    }))
