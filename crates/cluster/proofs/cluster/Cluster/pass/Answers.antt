use Rattle.std.proofs.Common.{subst, arith}
use mathlib.Core.List.{IsPrefix}
use Rattle.cluster.proofs.Seats.{cluster_passed, cluster_still, requests_few, room_still, seat_passed}
use Rattle.cluster.proofs.Tapes.{room_less}
use Rattle.cluster.specs.Clusters.{ClusterView, SeatView}
use Rattle.cluster.specs.Passing.{HasPassed, Passes}
use Rattle.cluster.proofs.cluster.Cluster.pass.Goals as goal

pub invariant_of-self : goal.invariant_of-self
invariant_of-self g c = (
  cluster_still c.self.invariant.0 c.pass.new.self c.in-Err-pass.ensures.unchanged,
  room_still c.self.invariant.1 c.pass.new.self _ _ (c.in-Err-pass.ensures.room_back c.self.inside.kept),
)

pub book_request-requires-clause-few : goal.book_request-requires-clause-few
book_request-requires-clause-few g c = requests_few c.self.invariant.0

pub invariant_of-self-2 : goal.invariant_of-self-2
invariant_of-self-2 g c = (
  cluster_passed c.self.invariant.0 c.pass.new.self c.book_request.new.requests c.book_request.new.book.total
      c.in-Ok-pass.ensures.passed c.book_request.ensures.requests c.book_request.ensures.book,
  room_still c.self.invariant.1 c.pass.new.self _ _ (λ room. room_less c.pass.new.self.trace c.self.inside.kept
      c.saturating_add-kept.result (omega (arith, c.saturating_add-kept.ensures)) c.in-Ok-pass.ensures.room),
)

pub returns-clause-passed : goal.returns-clause-passed
returns-clause-passed g c =
    let in' = c.self.inside in
    let it = c.in-Ok-pass.passed in
    let passed = subst (λ (s : SeatView). HasPassed in'.history s.conn c.args.words it.0 it.1 it.2 c.pass.new.self) c.seat.view_is
    c.in-Ok-pass.ensures.passed in
    let behind = subst (λ (s : SeatView). IsPrefix s.seen in'.history.steps) c.seat.view_is c.in-Ok-pass.ensures.behind in
    subst (λ (v : ClusterView). Passes v.history c.args.seat.now c.args.words it.2 c.pass.new.self c.book_request.new.seat) c.self.view_is
    (seat_passed in'.history c.pass.new.self c.args.seat.now c.book_request.new.seat c.args.words it.0 it.1 it.2 passed behind
    c.book_request.ensures.seat)
