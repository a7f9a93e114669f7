use Rattle.std.proofs.lemmas.Result.{IfErr-weaker}
use Rattle.shared_cluster.proofs.shared.Shared.close.Goals as goal

pub returns-clause-refused : goal.returns-clause-refused
returns-clause-refused g c =
    let held = c.deref_mut.result.now in
    IfErr-weaker c.close.result _ _ (λ fault why. (held.stopped, held.cluster, c.deref.result.now, why)) c.close.ensures.refused
