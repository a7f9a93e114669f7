use Rattle.cluster.proofs.Seats.{cluster_submitted, requests_few, room_still}
use Rattle.cluster.proofs.cluster.Cluster.submit.Goals as goal

pub book_request-requires-clause-few : goal.book_request-requires-clause-few
book_request-requires-clause-few g c = requests_few c.self.invariant.0

pub invariant_of-self-2 : goal.invariant_of-self-2
invariant_of-self-2 g c = (
  cluster_submitted c.self.invariant.0 c.make_submit.new.history c.book_request.new.requests c.book_request.new.book.total
      c.in-Ok.ensures.made c.book_request.ensures.requests c.book_request.ensures.book,
  room_still c.self.invariant.1 c.make_submit.new.history _ _ c.in-Ok.ensures.room,
)
