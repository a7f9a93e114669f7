use Rattle.std.proofs.Common.{ap}
use Rattle.shared_cluster.proofs.Hands.{given_left}
use Rattle.shared_cluster.specs.declared.hand.Hand.TheVariants.{HasRun}
use Rattle.shared_cluster.proofs.shared.Shared.settle.Goals as goal

pub returns-in-Some-clause-made : goal.returns-in-Some-clause-made
returns-in-Some-clause-made g c =
    ap HasRun (given_left c.args.ran c.in-Some.ran c.in-Ok.left c.in-Ok.ensures.given c.in-Some.is)
