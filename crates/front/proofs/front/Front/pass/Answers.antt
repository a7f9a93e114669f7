use Rattle.std.proofs.Common.{List, sym, subst, ◌∙◌, arith}
use Rattle.std.proofs.lemmas.Result.{err_from_is_err_and}
use Rattle.delivery.specs.Queues.{queue_of}
use Rattle.delivery.specs.Ready.{IsReady}
use Rattle.front.proofs.Messages.{begins_roomless}
use Rattle.front.proofs.PassMakes.{may_come_beside, passes_roomless, begun_makes, once_begun, start_may_come, may_be_taken}
use Rattle.front.proofs.PassMakes.{passed_front, takes_at_once, once_passed}
use Rattle.front.proofs.Refusals.{few_asked, submit_refused}
use Rattle.front.proofs.Showing.{stepped}
use Rattle.front.proofs.Views.{seen}
use Rattle.front.specs.Faults.{of_submit}
use Rattle.front.specs.Fronts.{IsFront, roomless}
use Rattle.front.specs.Looking.{IsQuiet}
use Rattle.front.specs.Making.{Makes}
use Rattle.front.specs.Passing.{TakesAtOnce, MayPass}
use Rattle.front.specs.Refusing.{IsFault}
use Rattle.journal.specs.declared.step.Step.TheVariants.{Submit}
use Rattle.multicast.specs.Multicast.{IsSame}
use Rattle.router.proofs.Alone.{submits_as_before}
use Rattle.router.specs.Submitting.{TakesOut}
use Rattle.skeen_core.specs.declared.packet.Delivered.{Delivered}
use Rattle.world.specs.Steps.{Submitted}
use Rattle.front.proofs.front.Front.pass.Goals as goal

pub submit_and_take-requires : goal.submit_and_take-requires
submit_and_take-requires c =
    let few : MayPass (seen c.self.inside) = subst MayPass (sym c.self.view_is) c.requires in
    few_asked (seen c.self.inside) c.self.invariant (omega arith) c.args.conn.0

pub returns-in_err-sent-clause-refused : goal.returns-in_err-sent-clause-refused
returns-in_err-sent-clause-refused c =
    let p = err_from_is_err_and c.from_residual.result c.from_residual.ensures.1 in
    rw (p.1, p.2) (subst (λ v. IsFault v (Submit c.args.conn c.args.words) (of_submit c.in_err-sent.field-0.0)) c.self.view_is
    (submit_refused (seen c.self.inside) c.args.conn c.args.words c.in_err-sent.field-0.0 c.in_err-sent.ensures.refused))

pub deliver_at_once-requires-clause-no_packet : goal.deliver_at_once-requires-clause-no_packet
deliver_at_once-requires-clause-no_packet c =
    let quiet = subst IsQuiet (sym c.self.view_is) (c.quiet.ensures.0 c.if-not-quiet.false) in
    c.in_ok-sent.ensures.same.packets ∙ quiet.packets

pub deliver_at_once-requires-clause-none_ready : goal.deliver_at_once-requires-clause-none_ready
deliver_at_once-requires-clause-none_ready c = λ d ready.
    let quiet = subst IsQuiet (sym c.self.view_is) (c.quiet.ensures.0 c.if-not-quiet.false) in
    quiet.none_ready d (subst (λ qs. IsReady (queue_of qs) d) c.in_ok-sent.ensures.same.queues ready)

pub deliver_at_once-requires-clause-comes : goal.deliver_at_once-requires-clause-comes
deliver_at_once-requires-clause-comes c = λ g alone.
    let old = seen c.self.inside in
    let quiet = subst IsQuiet (sym c.self.view_is) (c.quiet.ensures.0 c.if-not-quiet.false) in
    let few = subst MayPass (sym c.self.view_is) c.requires in
    let same = c.in_ok-sent.ensures.same in
    let sent = c.in_ok-sent.ensures.submitted in
    may_come_beside old.multicast c.submit_and_take.new.multicast _ same.groups same.queues
    (start_may_come old c.self.invariant c.args.conn c.args.words c.in_ok-sent.sent sent.mid sent.submits few quiet.packets g alone)

pub send-requires-clause-taken : goal.send-requires-clause-taken
send-requires-clause-taken c = (c.in_ok-sent.ensures.submitted.mid, c.in_ok-sent.ensures.submitted.takes)

pub invariant_of-self-in_default : goal.invariant_of-self-in_default
invariant_of-self-in_default c =
    let old = seen c.self.inside in
    let sent = c.in_ok-sent.sent in
    let has = c.in_ok-sent.ensures.submitted in
    let r = c.send.new.router in
    let m = roomless c.send.new.multicast in
    let same = subst (IsSame c.self.inside.multicast) (sym c.in_default.ensures.unchanged) c.in_ok-sent.ensures.same in
    let submits = submits_as_before old.table c.args.conn.0 c.args.words old.router has.mid r sent has.submits
    (c.send.ensures.as_before has.mid has.takes) in
    subst (λ (ds : List Delivered). IsFront (record (stepped old r m) { out = ds })) (sym c.deliver_at_once.ensures.out)
    (once_begun old c.self.invariant c.args.conn c.args.words sent r submits m
    (begins_roomless c.self.inside.multicast c.deliver_at_once.new.multicast c.send.new.multicast sent.id sent.floor sent.groups same
    c.send.ensures.begins))

pub returns-in_default-clause-made : goal.returns-in_default-clause-made
returns-in_default-clause-made c =
    let old = seen c.self.inside in
    let sent = c.in_ok-sent.sent in
    let has = c.in_ok-sent.ensures.submitted in
    let r = c.send.new.router in
    let m = roomless c.send.new.multicast in
    let same = subst (IsSame c.self.inside.multicast) (sym c.in_default.ensures.unchanged) c.in_ok-sent.ensures.same in
    let submits = submits_as_before old.table c.args.conn.0 c.args.words old.router has.mid r sent has.submits
    (c.send.ensures.as_before has.mid has.takes) in
    let out = c.deliver_at_once.new.out.items in
    subst (λ v. Makes v (Submit c.args.conn c.args.words) (Submitted sent.id) (record (stepped old r m) { out = out })) c.self.view_is
    (subst (λ (ds : List Delivered).
    Makes old (Submit c.args.conn c.args.words) (Submitted sent.id) (record (stepped old r m) { out = ds }))
    (sym c.deliver_at_once.ensures.out)
    (begun_makes old c.self.invariant c.args.conn c.args.words sent r submits m
    (begins_roomless c.self.inside.multicast c.deliver_at_once.new.multicast c.send.new.multicast sent.id sent.floor sent.groups same
    c.send.ensures.begins)))

pub hand_out-layer-requires-clause-waits : goal.hand_out-layer-requires-clause-waits
hand_out-layer-requires-clause-waits c =
    let old = seen c.self.inside in
    let quiet = subst IsQuiet (sym c.self.view_is) (c.quiet.ensures.0 c.if-not-quiet.false) in
    let sent = c.in_ok-sent.sent in
    let has = c.in_ok-sent.ensures.submitted in
    let m = c.deliver_at_once.new.multicast in
    let passes = passes_roomless c.self.inside.multicast c.submit_and_take.new.multicast m sent.id sent.floor sent.groups c.in-Some.request
    c.in_ok-sent.ensures.same c.in-Some.ensures.passed in
    let may = may_be_taken old c.self.invariant c.args.conn c.args.words sent has.mid has.submits quiet c.in-Some.request
    (roomless m) passes in (
      may.0,
      may.1,
      has.mid,
      c.submit_and_take.new.router,
      may.2,
      subst (λ id. TakesOut has.mid id c.submit_and_take.new.asked.items c.submit_and_take.new.router)
          (sym c.in-Some.ensures.named) has.takes,
    )

pub invariant_of-self-2 : goal.invariant_of-self-2
invariant_of-self-2 c =
    let old = seen c.self.inside in
    let quiet = subst IsQuiet (sym c.self.view_is) (c.quiet.ensures.0 c.if-not-quiet.false) in
    let sent = c.in_ok-sent.sent in
    let has = c.in_ok-sent.ensures.submitted in
    let m = c.deliver_at_once.new.multicast in
    let r = c.submit_and_take.new.router in
    let passes = passes_roomless c.self.inside.multicast c.submit_and_take.new.multicast m sent.id sent.floor sent.groups c.in-Some.request
    c.in_ok-sent.ensures.same c.in-Some.ensures.passed in
    let takes = subst (λ id. TakesOut has.mid id c.submit_and_take.new.asked.items r) (sym c.in-Some.ensures.named) has.takes in
    subst (λ n. IsFront (passed_front old r (roomless m) c.hand_out-layer.new.out.items n)) (sym c.len-groups.ensures.count)
    (once_passed old c.self.invariant c.args.conn c.args.words sent has.mid has.submits quiet c.in-Some.request (roomless m) passes r
    c.hand_out-layer.result c.hand_out-layer.new.out.items c.hand_out-layer.ensures.out
    (λ t w is. c.hand_out-layer.ensures.taken t w has.mid r is takes))

pub returns-clause-made : goal.returns-clause-made
returns-clause-made c =
    let old = seen c.self.inside in
    let quiet = subst IsQuiet (sym c.self.view_is) (c.quiet.ensures.0 c.if-not-quiet.false) in
    let sent = c.in_ok-sent.sent in
    let has = c.in_ok-sent.ensures.submitted in
    let m = c.deliver_at_once.new.multicast in
    let r = c.submit_and_take.new.router in
    let out = c.hand_out-layer.new.out.items in
    let layer = c.hand_out-layer.result in
    let passes = passes_roomless c.self.inside.multicast c.submit_and_take.new.multicast m sent.id sent.floor sent.groups c.in-Some.request
    c.in_ok-sent.ensures.same c.in-Some.ensures.passed in
    let takes = subst (λ id. TakesOut has.mid id c.submit_and_take.new.asked.items r) (sym c.in-Some.ensures.named) has.takes in
    subst (λ v. TakesAtOnce v c.args.conn c.args.words sent.id layer
    (passed_front old r (roomless m) out c.len-groups.result)) c.self.view_is
    (subst (λ n. TakesAtOnce old c.args.conn c.args.words sent.id layer (passed_front old r (roomless m) out n))
    (sym c.len-groups.ensures.count)
    (takes_at_once old c.self.invariant c.args.conn c.args.words sent has.mid has.submits quiet c.in-Some.request (roomless m) passes r
    layer out c.hand_out-layer.ensures.out (λ t w is. c.hand_out-layer.ensures.taken t w has.mid r is takes) c.in-Some.ensures.few))
