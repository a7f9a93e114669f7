use Rattle.std.proofs.Common.{◌≡◌, ◌<◌, ℕ, List, Some, None, length, sym, ap, ◌∙◌, subst, arith}
use Rattle.groups.specs.GroupSet.{has}
use Rattle.delivery.specs.Ready.{QueueOf}
use Rattle.delivery.specs.Queues.{requests_of, queue_of}
use Rattle.delivery.specs.Heads.{head_of, AreCounted, but, ready_after}
use Rattle.delivery.proofs.Headed.{has_first}
use Rattle.delivery.proofs.Taken.{Next, next_up, next_within, next_none, next_ready_room, next_partly_room, next_not_all, next_counted}
use Rattle.delivery.proofs.heads.count_heads.Goals as goal
use Rattle.delivery.proofs.heads.count_heads.Goals.{After-index-queues-from}

-- the group whose turn it is, and its queue
next : (c : After-index-queues-from) → Next c.args.queues.now c.loop-group.group-iterator c.next.new.self c.in-Some.group c.from.result
    c.index-queues-from.result
next c =
    let at = c.from.ensures ∙ c.number.ensures.same in
    let inside = ap (λ l. has l c.in-Some.group) c.in-Some.ensures.steps ∙ has_first c.in-Some.group c.next.new.self in record {
      ascending = c.loop-group.invariant.ascending;
      is = c.in-Some.ensures.steps;
      at = at;
      low = subst (λ k. k < length c.args.queues.now) (sym at) (c.loop-group.invariant.within c.in-Some.group inside);
      was = c.index-queues-from.is;
    }

pub bounds-queues-from : goal.bounds-queues-from
bounds-queues-from c =
    let low = c.loop-group.invariant.within c.in-Some.group
    (ap (λ l. has l c.in-Some.group) c.in-Some.ensures.steps ∙ has_first c.in-Some.group c.next.new.self) in
    subst (λ k. k < length c.args.queues.now) (sym (c.from.ensures ∙ c.number.ensures.same)) low

pub count_head-requires-clause-ready_room : goal.count_head-requires-clause-ready_room
count_head-requires-clause-ready_room c =
    let qs = c.args.queues.now in
    let it = c.loop-group.group-iterator in
    let rest = c.next.new.self in
    let q = c.index-queues-from.result in
    let x = next (goal.at.count_head-requires-clause-ready_room c).After-index-queues-from in
    let d = c.in-Some-head.head.now in
    let head : head_of q.requests ≡ Some d = sym c.in-Some-head.ensures in
    let ds = c.loop-group.ready.items in
    let hs = c.loop-group.partly.items in
    let few = next_ready_room qs it rest c.in-Some.group c.from.result q x d c.requires.sound head ds hs c.loop-group.invariant.counted in
    omega (arith, c.requires.ready_room, c.loop-group.invariant.ready_capacity)

pub count_head-requires-clause-partly_room : goal.count_head-requires-clause-partly_room
count_head-requires-clause-partly_room c =
    let qs = c.args.queues.now in
    let it = c.loop-group.group-iterator in
    let rest = c.next.new.self in
    let q = c.index-queues-from.result in
    let x = next (goal.at.count_head-requires-clause-partly_room c).After-index-queues-from in
    let d = c.in-Some-head.head.now in
    let head : head_of q.requests ≡ Some d = sym c.in-Some-head.ensures in
    let ds = c.loop-group.ready.items in
    let hs = c.loop-group.partly.items in
    let few = next_partly_room qs it rest c.in-Some.group c.from.result q x d c.requires.sound head ds hs c.loop-group.invariant.counted in
    omega (arith, c.requires.partly_room, c.loop-group.invariant.partly_capacity)

pub count_head-requires-clause-not_all : goal.count_head-requires-clause-not_all
count_head-requires-clause-not_all c =
    let qs = c.args.queues.now in
    let it = c.loop-group.group-iterator in
    let rest = c.next.new.self in
    let q = c.index-queues-from.result in
    let x = next (goal.at.count_head-requires-clause-not_all c).After-index-queues-from in
    let d = c.in-Some-head.head.now in
    let head : head_of q.requests ≡ Some d = sym c.in-Some-head.ensures in
    let ds = c.loop-group.ready.items in
    let hs = c.loop-group.partly.items in
    next_not_all qs it rest c.in-Some.group c.from.result q x d c.requires.sound head ds hs c.loop-group.invariant.counted

pub loop-group-preserved-in-Some-head : goal.loop-group-preserved-in-Some-head
loop-group-preserved-in-Some-head c =
    let qs = c.args.queues.now in
    let it = c.loop-group.group-iterator in
    let rest = c.next.new.self in
    let q = c.index-queues-from.result in
    let x = next (goal.at.loop-group-preserved-in-Some-head c).After-index-queues-from in
    let d = c.in-Some-head.head.now in
    let head : head_of q.requests ≡ Some d = sym c.in-Some-head.ensures in
    let ds = c.loop-group.ready.items in
    let hs = c.loop-group.partly.items in
    let after = next_counted qs it rest c.in-Some.group c.from.result q x d c.requires.sound head ds hs c.loop-group.invariant.counted
    c.count_head.ensures.set in
    record {
      ascending = next_up qs it rest c.in-Some.group c.from.result q x;
      within = λ h k. c.loop-group.invariant.within h (next_within qs it rest c.in-Some.group c.from.result q x h k);
      counted = subst (λ es. AreCounted (but rest (queue_of (requests_of qs))) es c.count_head.new.partly.items)
          (sym c.count_head.ensures.ready)
          (subst (λ ks. AreCounted (but rest (queue_of (requests_of qs))) (ready_after hs d ds) ks)
          (sym c.count_head.ensures.partly) after);
      ready_capacity = c.count_head.ensures.ready_capacity ∙ c.loop-group.invariant.ready_capacity;
      partly_capacity = c.count_head.ensures.partly_capacity ∙ c.loop-group.invariant.partly_capacity;
    }

pub loop-group-preserved : goal.loop-group-preserved
loop-group-preserved c =
    let qs = c.args.queues.now in
    let it = c.loop-group.group-iterator in
    let rest = c.next.new.self in
    let q = c.index-queues-from.result in
    let x = next (goal.at.loop-group-preserved c).After-index-queues-from in
    let none : head_of q.requests ≡ None = sym c.in_default.ensures in
    record {
      ascending = next_up qs it rest c.in-Some.group c.from.result q x;
      within = λ h k. c.loop-group.invariant.within h (next_within qs it rest c.in-Some.group c.from.result q x h k);
      counted = subst (λ (u : QueueOf). AreCounted u c.loop-group.ready.items c.loop-group.partly.items)
          (next_none qs it rest c.in-Some.group c.from.result q x none)
          c.loop-group.invariant.counted;
      ready_capacity = c.loop-group.invariant.ready_capacity;
      partly_capacity = c.loop-group.invariant.partly_capacity;
    }

pub returns-clause-counted : goal.returns-clause-counted
returns-clause-counted c =
    let qs = c.args.queues.now in
    subst (λ (it : List ℕ). AreCounted (but it (queue_of (requests_of qs))) c.loop-group.ready.items c.loop-group.partly.items)
    c.in-None.ensures.steps.0 c.loop-group.invariant.counted
