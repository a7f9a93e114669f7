use Rattle.shared_cluster.proofs.Hands.{begins_so}
use Rattle.shared_cluster.specs.declared.held.Next.TheVariants.{Taken, Delivered, Starved, Quiet}
use Rattle.shared_cluster.proofs.shared.Shared.begin.Goals as goal

pub returns-in-Taken-clause-made : goal.returns-in-Taken-clause-made
returns-in-Taken-clause-made g c =
    begins_so _ c.args.hand.now c.in-Ok.found (Taken c.in-Taken.layer) c.in-Ok.ensures.made c.in-Taken.is

pub returns-in-Delivered-clause-made : goal.returns-in-Delivered-clause-made
returns-in-Delivered-clause-made g c =
    begins_so _ c.args.hand.now c.in-Ok.found Delivered c.in-Ok.ensures.made c.in-Delivered.is

pub returns-in-Starved-clause-made : goal.returns-in-Starved-clause-made
returns-in-Starved-clause-made g c =
    begins_so _ c.args.hand.now c.in-Ok.found Starved c.in-Ok.ensures.made c.in-Starved.is

pub returns-in-Quiet-clause-made : goal.returns-in-Quiet-clause-made
returns-in-Quiet-clause-made g c =
    begins_so _ c.args.hand.now c.in-Ok.found Quiet c.in-Ok.ensures.made c.in-Quiet.is
