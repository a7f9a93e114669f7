use Rattle.std.proofs.Common.{sym, subst}
use Rattle.std.proofs.lemmas.Result.{err_from_is_err_and}
use Rattle.front.proofs.Messages.{begins_roomless, submit_makes}
use Rattle.front.proofs.Refusals.{few_asked, submit_refused}
use Rattle.front.proofs.Showing.{stepped, once_made}
use Rattle.front.proofs.Views.{seen}
use Rattle.front.specs.Faults.{of_submit}
use Rattle.front.specs.Fronts.{roomless}
use Rattle.front.specs.Making.{Makes}
use Rattle.front.specs.Refusing.{IsFault, MayStep}
use Rattle.journal.specs.declared.step.Step.TheVariants.{Submit}
use Rattle.world.specs.Steps.{Submitted}
use Rattle.front.proofs.front.Front.submit.Goals as goal

pub submit_with_room-requires : goal.submit_with_room-requires
submit_with_room-requires c = few_asked (seen c.self.inside) c.self.invariant (subst MayStep (sym c.self.view_is) c.requires) c.args.conn.0

pub returns-in_err-sent-clause-refused : goal.returns-in_err-sent-clause-refused
returns-in_err-sent-clause-refused c =
    let p = err_from_is_err_and c.from_residual.result c.from_residual.ensures.1 in
    rw (p.1, p.2) (subst (λ v. IsFault v (Submit c.args.conn c.args.words) (of_submit c.in_err-sent.field-0.0)) c.self.view_is
    (submit_refused (seen c.self.inside) c.args.conn c.args.words c.in_err-sent.field-0.0 c.in_err-sent.ensures.refused))

pub invariant_of-self-2 : goal.invariant_of-self-2
invariant_of-self-2 c =
    let old = seen c.self.inside in
    let sent = c.in_ok-sent.sent in
    let r = c.submit_with_room.new.router in
    let m = roomless c.start.new.self in
    once_made old (stepped old r m) c.self.invariant (Submit c.args.conn c.args.words) tt (Submitted sent.id)
    (submit_makes old r m c.args.conn c.args.words sent c.self.invariant.is_table c.in_ok-sent.ensures.submitted
    (begins_roomless c.self.inside.multicast c.submit_with_room.new.multicast c.start.new.self sent.id sent.floor sent.groups
    c.in_ok-sent.ensures.same c.start.ensures))

pub returns-clause-made : goal.returns-clause-made
returns-clause-made c =
    let old = seen c.self.inside in
    let sent = c.in_ok-sent.sent in
    let r = c.submit_with_room.new.router in
    let m = roomless c.start.new.self in
    subst (λ v. Makes v (Submit c.args.conn c.args.words) (Submitted sent.id) (stepped old r m)) c.self.view_is
    (submit_makes old r m c.args.conn c.args.words sent c.self.invariant.is_table c.in_ok-sent.ensures.submitted
    (begins_roomless c.self.inside.multicast c.submit_with_room.new.multicast c.start.new.self sent.id sent.floor sent.groups
    c.in_ok-sent.ensures.same c.start.ensures))
