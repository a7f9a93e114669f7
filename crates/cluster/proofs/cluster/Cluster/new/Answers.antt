use Rattle.std.proofs.Common.{◌<◌, subst, refl}
use Rattle.cluster.proofs.Seats.{cluster_new}
use Rattle.cluster.proofs.Tapes.{no_room}
use Rattle.cluster.proofs.cluster.Cluster.new.Goals as goal

pub invariant_of-result : goal.invariant_of-result
invariant_of-result g c = (
  cluster_new g.L.Ledger.parts c.open-book.result.1.parts c.in_ok-history.history c.open-book.result.0.total c.args.max_steps
      c.open-book.result.1.amount c.open-book.ensures.parts c.open-book.ensures.total c.in_ok-history.ensures.steps
      c.in_ok-history.ensures.max_steps (subst (λ n. c.args.max_steps < n) c.requires.parts c.requires.enough) c.requires.few,
  record { each = refl; room = no_room c.in_ok-history.history.trace },
)
