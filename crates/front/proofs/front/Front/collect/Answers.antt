use Rattle.std.proofs.Common.{option_map, subst}
use Rattle.front.proofs.Connecting.{collect_makes}
use Rattle.front.proofs.Showing.{stepped, once_made}
use Rattle.front.proofs.Views.{seen}
use Rattle.front.specs.Making.{Makes}
use Rattle.journal.specs.declared.step.Step.TheVariants.{Collect}
use Rattle.front.specs.Connections.{outcome_shown}
use Rattle.world.specs.Steps.{Collected}
use Rattle.front.proofs.front.Front.collect.Goals as goal

pub invariant_of-self-2 : goal.invariant_of-self-2
invariant_of-self-2 c =
    let old = seen c.self.inside in
    once_made old (stepped old c.collect.new.self old.multicast) c.self.invariant (Collect c.args.conn) tt
    (Collected (option_map outcome_shown c.in-Ok.outcome))
    (collect_makes old c.collect.new.self c.args.conn c.in-Ok.outcome c.in-Ok.ensures.collected)

pub returns-clause-made : goal.returns-clause-made
returns-clause-made c =
    let old = seen c.self.inside in
    subst (λ v. Makes v (Collect c.args.conn) (Collected (option_map outcome_shown c.in-Ok.outcome))
    (stepped old c.collect.new.self old.multicast)) c.self.view_is
    (collect_makes old c.collect.new.self c.args.conn c.in-Ok.outcome c.in-Ok.ensures.collected)
