use Rattle.std.proofs.lemmas.Result.{IfErr-weaker}
use Rattle.shared_cluster.proofs.Hands.{found_so}
use Rattle.shared_cluster.proofs.shared.turn_once.Goals as goal

pub returns-clause-made : goal.returns-clause-made
returns-clause-made g c =
    found_so _ c.args.held.now.cluster.history c.turn.new.self.cluster.history c.turn.result c.turn.ensures.lawful c.turn.ensures.made

pub returns-clause-refused : goal.returns-clause-refused
returns-clause-refused g c =
    IfErr-weaker c.turn.result _ _ (λ fault why. (c.args.held.now.stopped, c.args.held.now.cluster.history, why)) c.turn.ensures.refused
