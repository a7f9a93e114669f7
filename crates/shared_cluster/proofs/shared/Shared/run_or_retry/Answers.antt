use Rattle.shared_cluster.proofs.Hands.{brought_again}
use Rattle.shared_cluster.proofs.shared.Shared.run_or_retry.Goals as goal

pub returns-in-Starved : goal.returns-in-Starved
returns-in-Starved g c =
    brought_again _ _ c.args.layer c.in-Starved.layer c.run_in_store-run.result c.run_in_store.result c.run_in_store-run.ensures
    c.in-Starved.is c.run_in_store.ensures
