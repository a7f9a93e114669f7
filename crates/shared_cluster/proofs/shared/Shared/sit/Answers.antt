use Rattle.std.proofs.lemmas.Result.{IfOk-weaker, IfErr-weaker}
use Rattle.shared_cluster.proofs.shared.Shared.sit.Goals as goal

pub returns-clause-seat : goal.returns-clause-seat
returns-clause-seat g c =
    IfOk-weaker c.sit.result _ _ (λ seat seated. (c.deref_mut.result.now.cluster.history, c.sit.new.self.cluster.history, seated))
    c.sit.ensures.seat

pub returns-clause-refused : goal.returns-clause-refused
returns-clause-refused g c =
    let held = c.deref_mut.result.now in
    IfErr-weaker c.sit.result _ _ (λ fault why. (held.shut, held.stopped, held.cluster.history, why)) c.sit.ensures.refused
