use Rattle.std.proofs.Common.{subst}
use Rattle.front.proofs.Messages.{repeat_makes, repeats_roomless}
use Rattle.front.proofs.Showing.{stepped, once_made}
use Rattle.front.proofs.Views.{seen}
use Rattle.front.specs.Fronts.{roomless}
use Rattle.front.specs.Making.{Makes}
use Rattle.journal.specs.declared.step.Step.TheVariants.{Repeat}
use Rattle.world.specs.Steps.{Made}
use Rattle.front.proofs.front.Front.repeat.Goals as goal

pub invariant_of-self-2 : goal.invariant_of-self-2
invariant_of-self-2 c =
    let old = seen c.self.inside in
    once_made old (stepped old old.router (roomless c.repeat.new.self)) c.self.invariant (Repeat c.args.place) tt Made
    (repeat_makes old (roomless c.repeat.new.self) c.args.place
    (repeats_roomless c.self.inside.multicast c.repeat.new.self c.args.place c.in_ok-repeat.ensures.repeats))

pub returns-clause-made : goal.returns-clause-made
returns-clause-made c =
    let old = seen c.self.inside in
    subst (λ v. Makes v (Repeat c.args.place) Made (stepped old old.router (roomless c.repeat.new.self))) c.self.view_is
    (repeat_makes old (roomless c.repeat.new.self) c.args.place
    (repeats_roomless c.self.inside.multicast c.repeat.new.self c.args.place c.in_ok-repeat.ensures.repeats))
