use Rattle.std.proofs.Common.{subst}
use Rattle.front.proofs.Connecting.{close_makes}
use Rattle.front.proofs.Showing.{stepped, once_made}
use Rattle.front.proofs.Views.{seen}
use Rattle.front.specs.Making.{Makes}
use Rattle.journal.specs.declared.step.Step.TheVariants.{Close}
use Rattle.world.specs.Steps.{Made}
use Rattle.front.proofs.front.Front.close.Goals as goal

pub invariant_of-self-2 : goal.invariant_of-self-2
invariant_of-self-2 c =
    let old = seen c.self.inside in
    once_made old (stepped old c.close.new.self old.multicast) c.self.invariant (Close c.args.conn) tt Made
    (close_makes old c.close.new.self c.args.conn c.in-Ok.ensures.closed)

pub returns-clause-made : goal.returns-clause-made
returns-clause-made c =
    let old = seen c.self.inside in
    subst (λ v. Makes v (Close c.args.conn) Made (stepped old c.close.new.self old.multicast)) c.self.view_is
    (close_makes old c.close.new.self c.args.conn c.in-Ok.ensures.closed)
