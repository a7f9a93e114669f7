use Rattle.shared_cluster.proofs.Hands.{brings_done, brings_back}
use Rattle.shared_cluster.proofs.shared.Shared.run.Goals as goal

pub returns-in-Handed-clause-made : goal.returns-in-Handed-clause-made
returns-in-Handed-clause-made g c =
    brings_done _ _ c.args.layer c.run_or_retry-run.result c.in-Handed.ran c.run_or_retry-run.ensures c.in-Handed.is

pub returns-in-Starved-clause-made : goal.returns-in-Starved-clause-made
returns-in-Starved-clause-made g c =
    brings_back _ _ c.args.layer c.in-Starved.layer c.run_or_retry-run.result c.run_or_retry-run.ensures c.in-Starved.is
