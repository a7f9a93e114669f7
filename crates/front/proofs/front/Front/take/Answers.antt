use Rattle.std.proofs.Common.{rules, ◌≡◌, [], length, sym, ap, subst}
use Rattle.std.specs.Prelude.{IsOk, IsSome}
use Rattle.delivery.specs.Queues.{queue_of}
use Rattle.delivery.specs.Ready.{IsLayer}
use Rattle.front.proofs.Jobs.{jobs_may_stand}
use Rattle.std.proofs.lemmas.List.{nil_from_length}
use Rattle.front.proofs.TakeMakes.{taken_front, take_memory, take_no_layer, some_ready, take_may_start, take_made, once_taken_out}
use Rattle.front.proofs.TakeMakes.{loses_roomless}
use Rattle.front.proofs.Views.{seen}
use Rattle.front.specs.Fronts.{roomless}
use Rattle.front.specs.Refusing.{Refuses, IsFault}
use Rattle.front.specs.Taking.{IsTaking, Takes}
use Rattle.front.specs.declared.fault.FrontFault.TheVariants.{Memory}
use Rattle.journal.specs.declared.step.Step.TheVariants.{Take}
use Rattle.placement.specs.Layout.{Layout}
use Rattle.world.specs.Steps.{NoLayer}
use Rattle.world.specs.World.{World}
use Rattle.front.proofs.front.Front.take.Goals as goal

pub returns-in_default-clause-refused : goal.returns-in_default-clause-refused
returns-in_default-clause-refused c =
    let old = seen c.self.inside in
    let none : old.out ≡ [] = nil_from_length old.out (search rules) in
    subst (λ f. IsFault f Take Memory) c.self.view_is
    (tt, take_memory old none (λ unready. let k = subst IsOk c.in_default.is (c.ready.ensures.succeeds unready) in cc))

pub returns-then-is_empty-clause-refused : goal.returns-then-is_empty-clause-refused
returns-then-is_empty-clause-refused c =
    let old = seen c.self.inside in
    let none : old.out ≡ [] = nil_from_length old.out (search rules) in
    subst (λ f. Refuses f Take NoLayer) c.self.view_is
    (take_no_layer old none
    (subst (IsLayer (queue_of c.self.inside.multicast.queues)) (nil_from_length c.in-Ok.ready.items (search rules)) c.in-Ok.ensures.layer))

pub returns-in_default-with_capacity-clause-refused : goal.returns-in_default-with_capacity-clause-refused
returns-in_default-with_capacity-clause-refused c =
    let old = seen c.self.inside in
    let none : old.out ≡ [] = nil_from_length old.out (search rules) in
    subst (λ f. IsFault f Take Memory) c.self.view_is (
      tt,
      take_memory old none (some_ready (queue_of c.self.inside.multicast.queues) c.in-Ok.ready.items c.in-Ok.ensures.layer
          (λ e. let count = ap length e in search rules)),
    )

pub take_all-requires-clause-waits : goal.take_all-requires-clause-waits
take_all-requires-clause-waits c =
    let old = seen c.self.inside in
    let none : old.out ≡ [] = nil_from_length old.out (search rules) in
    subst (λ ds. (t : Layout) × (w : World) × IsTaking t w [] ds old.router)
    (sym c.as_slice.ensures.value) (take_may_start old none c.in-Ok.ready.items c.in-Ok.ensures.layer c.self.invariant)

pub unreachable-requires : goal.unreachable-requires
unreachable-requires c =
    let old = seen c.self.inside in
    let none : old.out ≡ [] = nil_from_length old.out (search rules) in
    let start = take_may_start old none c.in-Ok.ready.items c.in-Ok.ensures.layer c.self.invariant in
    let first = subst (λ ds. IsTaking start.0 start.1 [] ds old.router) (sym c.as_slice.ensures.value) start.2 in
    let jobs = (c.take_all.ensures.taken start.0 start.1 first).1 in
    let may = jobs_may_stand start.0 start.1 c.as_slice.result.now old.router first c.take_all.new.jobs.items jobs in
    let k = subst IsSome c.in_default-gather.is (c.gather.ensures.just_where.1 may) in
    cc

pub invariant_of-self : goal.invariant_of-self
invariant_of-self c =
    let old = seen c.self.inside in
    let ready = c.in-Ok.ready.items in
    let m = c.lose_layer.new.self in
    let none : old.out ≡ [] = nil_from_length old.out (search rules) in
    once_taken_out old (taken_front old c.take_all.new.router (roomless m) ready) c.in-Some.layer c.self.invariant
    (take_made old none ready c.as_slice.result.now c.as_slice-2.result.now c.in-Ok.ensures.layer
    (λ e. let count = ap length e in search rules) c.take_all.new.router (roomless m) c.take_all.new.jobs.items c.in-Some.layer
    c.as_slice.ensures.value c.as_slice-2.ensures.value c.in-Some.ensures.gathered c.take_all.ensures.taken
    (loses_roomless c.self.inside.multicast m c.as_slice-2.result.now c.lose_layer.ensures))

pub returns-clause-made : goal.returns-clause-made
returns-clause-made c =
    let old = seen c.self.inside in
    let ready = c.in-Ok.ready.items in
    let m = c.lose_layer.new.self in
    let none : old.out ≡ [] = nil_from_length old.out (search rules) in
    subst (λ f. Takes f c.in-Some.layer (taken_front old c.take_all.new.router (roomless m) ready)) c.self.view_is
    (take_made old none ready c.as_slice.result.now c.as_slice-2.result.now c.in-Ok.ensures.layer
    (λ e. let count = ap length e in search rules) c.take_all.new.router (roomless m) c.take_all.new.jobs.items c.in-Some.layer
    c.as_slice.ensures.value c.as_slice-2.ensures.value c.in-Some.ensures.gathered c.take_all.ensures.taken
    (loses_roomless c.self.inside.multicast m c.as_slice-2.result.now c.lose_layer.ensures))
