use Rattle.std.proofs.lemmas.Result.{IfErr-weaker, on_ok_weaker}
use Rattle.shared_cluster.proofs.Collecting.{has_submitted}
use Rattle.shared_cluster.proofs.shared.Shared.submit.Goals as goal

pub returns-clause-submitted : goal.returns-clause-submitted
returns-clause-submitted g c =
    on_ok_weaker c.submit.result (has_submitted c.deref_mut.result.now.cluster.history c.submit.new.self.cluster.history c.args.seat.now
    c.submit.new.seat c.args.words) c.submit.ensures.made

pub returns-clause-refused : goal.returns-clause-refused
returns-clause-refused g c =
    let held = c.deref_mut.result.now in
    IfErr-weaker c.submit.result _ _ (λ fault why. (held.shut, held.stopped, held.cluster.history, why)) c.submit.ensures.refused
