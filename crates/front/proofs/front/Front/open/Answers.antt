use Rattle.std.proofs.Common.{sym, subst}
use Rattle.front.proofs.Connecting.{open_makes}
use Rattle.front.proofs.Refusals.{few_opened}
use Rattle.front.proofs.Showing.{stepped, once_made}
use Rattle.front.proofs.Views.{seen}
use Rattle.front.specs.Making.{Makes}
use Rattle.front.specs.Refusing.{MayStep}
use Rattle.journal.specs.declared.step.Step.TheVariants.{Open}
use Rattle.world.specs.Steps.{Opened}
use Rattle.front.proofs.front.Front.open.Goals as goal

pub open-requires : goal.open-requires
open-requires c = few_opened (seen c.self.inside) c.self.invariant (subst MayStep (sym c.self.view_is) c.requires)

pub invariant_of-self-2 : goal.invariant_of-self-2
invariant_of-self-2 c =
    let old = seen c.self.inside in
    let opened = c.in_ok-conn.ensures in
    once_made old (stepped old c.open.new.self old.multicast) c.self.invariant Open tt (Opened c.in_ok-conn.conn.0)
    (open_makes old c.open.new.self c.in_ok-conn.conn opened.number opened.opened opened.at opened.sessions)

pub returns-clause-made : goal.returns-clause-made
returns-clause-made c =
    let old = seen c.self.inside in
    let opened = c.in_ok-conn.ensures in
    subst (λ v. Makes v Open (Opened c.in_ok-conn.conn.0) (stepped old c.open.new.self old.multicast)) c.self.view_is
    (open_makes old c.open.new.self c.in_ok-conn.conn opened.number opened.opened opened.at opened.sessions)
