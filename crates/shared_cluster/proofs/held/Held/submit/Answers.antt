use Rattle.std.proofs.Common.{ap, subst}
use Rattle.cluster.specs.Clusters.{ClusterView}
use Rattle.shared_cluster.specs.Asks.{Submits}
use Rattle.shared_cluster.proofs.Collecting.{was_submitted}
use Rattle.shared_cluster.proofs.Refusals.{submit_refused}
use Rattle.shared_cluster.proofs.held.Held.submit.Goals as goal

pub returns-in-Ok-submit-clause-made : goal.returns-in-Ok-submit-clause-made
returns-in-Ok-submit-clause-made g c =
    let held = c.args.self.now in
    subst (λ words. Submits held.cluster.history c.args.seat.now words c.submit.new.self.history c.submit.new.seat) c.in-Ok.ensures.words
    (was_submitted held.cluster.history c.admit.new.self.cluster.history c.submit.new.self.history c.args.seat.now c.submit.new.seat
    c.in-Ok.admitted.0 c.in-Ok-submit.field-0 (ap (λ (k : ClusterView). k.history) c.admit.ensures.same.0)
    c.in-Ok-submit.ensures.submitted c.in-Ok-submit.ensures.behind c.in-Ok-submit.ensures.seat)

pub returns-in-Err-submit-clause-refused : goal.returns-in-Err-submit-clause-refused
returns-in-Err-submit-clause-refused g c =
    let held = c.args.self.now in
    let lives = c.in-Ok.ensures.lives in (
      cc,
      submit_refused held.shut held.stopped held.cluster.history c.args.seat.now c.args.words c.in-Ok.admitted.1 c.in-Err-submit.fault
          c.refused.result.kind lives.0 lives.1 lives.2 c.in-Ok.ensures.listed
          (rw c.in-Ok.ensures.words at (rw c.admit.ensures.same.0 at c.in-Err-submit.ensures.refused)) c.refused.ensures.1,
    )
