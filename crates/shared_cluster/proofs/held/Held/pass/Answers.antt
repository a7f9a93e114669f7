use Rattle.std.proofs.Common.{ap, subst}
use Rattle.cluster.specs.Clusters.{ClusterView}
use Rattle.shared_cluster.specs.Turning.{PassesOn}
use Rattle.shared_cluster.proofs.Collecting.{passed_on}
use Rattle.shared_cluster.proofs.Refusals.{submit_refused}
use Rattle.shared_cluster.proofs.held.Held.pass.Goals as goal

pub returns-in-Ok-pass-clause-made : goal.returns-in-Ok-pass-clause-made
returns-in-Ok-pass-clause-made g c =
    let held = c.args.self.now in
    subst (λ words. PassesOn held.cluster.history c.args.seat.now words c.in-Ok-pass.taken c.pass.new.self.history c.pass.new.seat)
    c.in-Ok.ensures.words
    (passed_on held.cluster.history c.admit.new.self.cluster.history c.pass.new.self.history c.args.seat.now c.pass.new.seat
    c.in-Ok.admitted.0 c.in-Ok-pass.taken (ap (λ (k : ClusterView). k.history) c.admit.ensures.same.0) c.in-Ok-pass.ensures.passed)

pub returns-in-Err-pass-clause-refused : goal.returns-in-Err-pass-clause-refused
returns-in-Err-pass-clause-refused g c =
    let held = c.args.self.now in
    let lives = c.in-Ok.ensures.lives in (
      cc,
      submit_refused held.shut held.stopped held.cluster.history c.args.seat.now c.args.words c.in-Ok.admitted.1 c.in-Err-pass.fault
          c.refused.result.kind lives.0 lives.1 lives.2 c.in-Ok.ensures.listed
          (rw c.in-Ok.ensures.words at (rw c.admit.ensures.same.0 at c.in-Err-pass.ensures.refused)) c.refused.ensures.1,
    )
