use Rattle.std.proofs.Common.{sym, subst, arith}
use Rattle.front.proofs.Messages.{deliver_makes, delivers_roomless}
use Rattle.front.proofs.Refusals.{few_steps}
use Rattle.front.proofs.Showing.{stepped, once_made, with_room}
use Rattle.front.proofs.Views.{seen}
use Rattle.front.specs.Fronts.{roomless}
use Rattle.front.specs.Making.{Makes}
use Rattle.front.specs.Refusing.{MayStep}
use Rattle.journal.specs.declared.step.Step.TheVariants.{Deliver}
use Rattle.front.proofs.Delivering.{may_be_delivered}
use Rattle.world.specs.Steps.{Made}
use Rattle.front.proofs.front.Front.deliver.Goals as goal

pub deliver-requires : goal.deliver-requires
deliver-requires c =
    let is = c.self.invariant in
    let few = few_steps (seen c.self.inside) is (subst MayStep (sym c.self.view_is) c.requires) in
    may_be_delivered c.self.inside.table c.self.inside.multicast is.world is.history is.at.leads (omega arith)
    (with_room c.self.inside.table c.self.inside.multicast is.world is.at.shows.multicast) c.args.place

pub invariant_of-self-2 : goal.invariant_of-self-2
invariant_of-self-2 c =
    let old = seen c.self.inside in
    once_made old (stepped old old.router (roomless c.deliver.new.self)) c.self.invariant (Deliver c.args.place) tt Made
    (deliver_makes old (roomless c.deliver.new.self) c.args.place
    (delivers_roomless c.self.inside.multicast c.deliver.new.self c.args.place c.in_ok-deliver.ensures.delivers))

pub returns-clause-made : goal.returns-clause-made
returns-clause-made c =
    let old = seen c.self.inside in
    subst (λ v. Makes v (Deliver c.args.place) Made (stepped old old.router (roomless c.deliver.new.self))) c.self.view_is
    (deliver_makes old (roomless c.deliver.new.self) c.args.place
    (delivers_roomless c.self.inside.multicast c.deliver.new.self c.args.place c.in_ok-deliver.ensures.delivers))
