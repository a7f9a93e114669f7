use Rattle.std.proofs.Common.{◌≤◌, List, [], ◌∷◌, slice_set, arith, ap, sym, ◌∙◌, subst}
use Rattle.groups.specs.GroupSet.{with_group}
use Rattle.delivery.specs.Ready.{QueueOf}
use Rattle.delivery.specs.Queues.{QueueView, queue_of, requests_of, IsSound}
use Rattle.delivery.specs.Heads.{AreCounted, but}
use Rattle.delivery.proofs.Appending.{set_appended, set_room, set_rooms, set_sound, set_long, no_new_head, one_new_head, same_heads}
use Rattle.delivery.proofs.Appending.{was_none, was_some}
use Rattle.delivery.proofs.queues.Queues.append.Goals as goal

pub count_heads-requires-clause-sound : goal.count_heads-requires-clause-sound
count_heads-requires-clause-sound c =
    let qs = c.self.inside.queues.items in
    let at = c.from.ensures ∙ c.number.ensures.same in
    let q = c.index_mut-queue.result.now in
    let q' = c.append.new.self in
    subst (λ (l : List QueueView). IsSound (queue_of (requests_of l))) (sym c.deref.ensures.value)
    (set_sound qs c.args.self.now c.args.group c.from.result c.args.request q q' c.self.view_is at c.requires.group
    c.index_mut-queue.ensures.value c.in_ok-append.ensures.appended c.self.invariant.sound c.requires.may_append)

pub count_heads-requires-clause-counted : goal.count_heads-requires-clause-counted
count_heads-requires-clause-counted c =
    let qs = c.self.inside.queues.items in
    let at = c.from.ensures ∙ c.number.ensures.same in
    let q = c.index_mut-queue.result.now in
    let q' = c.append.new.self in
    let none = was_none c.head.result q.requests c.if-was_empty.ensures c.head.ensures in
    let set = c.with-groups.ensures ∙ ap (λ l. with_group l c.args.group) c.empty.ensures in
    let is = ap (λ l. but l (queue_of (requests_of c.deref.result.now))) set
    ∙ ap (λ (l : List QueueView). but (c.args.group ∷ []) (queue_of (requests_of l))) c.deref.ensures.value
    ∙ one_new_head qs c.args.self.now c.args.group c.from.result c.args.request q q' c.self.view_is at c.requires.group
    c.index_mut-queue.ensures.value c.in_ok-append.ensures.appended none in
    subst (λ (u : QueueOf). AreCounted u c.self.inside.ready.items c.self.inside.partly.items) (sym is) c.self.invariant.counted

pub invariant_of-self-then-was_empty : goal.invariant_of-self-then-was_empty
invariant_of-self-then-was_empty c =
    let qs = c.self.inside.queues.items in
    let at = c.from.ensures ∙ c.number.ensures.same in
    let q = c.index_mut-queue.result.now in
    let q' = c.append.new.self in
    let long = set_long qs c.args.self.now c.args.group c.from.result c.args.request q q' c.self.view_is at c.requires.group
    c.index_mut-queue.ensures.value in
    record {
      few = subst (λ k. k ≤ 64) (sym long) c.self.invariant.few;
      sound = set_sound qs c.args.self.now c.args.group c.from.result c.args.request q q' c.self.view_is at c.requires.group
          c.index_mut-queue.ensures.value c.in_ok-append.ensures.appended c.self.invariant.sound c.requires.may_append;
      counted = subst (λ (l : List QueueView). AreCounted (queue_of
          (requests_of l)) c.count_heads.new.ready.items c.count_heads.new.partly.items)
          c.deref.ensures.value c.count_heads.ensures.counted;
      ready_room = omega (arith, long, c.self.invariant.ready_room, c.count_heads.ensures.ready_capacity);
      partly_room = omega (arith, long, c.self.invariant.partly_room, c.count_heads.ensures.partly_capacity);
    }

pub invariant_of-self-else-was_empty : goal.invariant_of-self-else-was_empty
invariant_of-self-else-was_empty c =
    let qs = c.self.inside.queues.items in
    let at = c.from.ensures ∙ c.number.ensures.same in
    let q = c.index_mut-queue.result.now in
    let q' = c.append.new.self in
    let long = set_long qs c.args.self.now c.args.group c.from.result c.args.request q q' c.self.view_is at c.requires.group
    c.index_mut-queue.ensures.value in
    let some = was_some c.head.result q.requests c.if-was_empty.ensures c.head.ensures in
    record {
      few = subst (λ k. k ≤ 64) (sym long) c.self.invariant.few;
      sound = set_sound qs c.args.self.now c.args.group c.from.result c.args.request q q' c.self.view_is at c.requires.group
          c.index_mut-queue.ensures.value c.in_ok-append.ensures.appended c.self.invariant.sound c.requires.may_append;
      counted = same_heads (queue_of (requests_of qs)) (queue_of (requests_of (slice_set qs c.from.result q'))) c.self.inside.ready.items
          c.self.inside.partly.items (no_new_head qs c.args.self.now c.args.group c.from.result c.args.request q q' c.self.view_is at
          c.requires.group c.index_mut-queue.ensures.value c.in_ok-append.ensures.appended some) c.self.invariant.counted;
      ready_room = omega (arith, long, c.self.invariant.ready_room);
      partly_room = omega (arith, long, c.self.invariant.partly_room);
    }

pub returns-then-was_empty-clause-appended : goal.returns-then-was_empty-clause-appended
returns-then-was_empty-clause-appended c =
    let qs = c.self.inside.queues.items in
    let at = c.from.ensures ∙ c.number.ensures.same in
    let q = c.index_mut-queue.result.now in
    let q' = c.append.new.self in
    set_appended qs c.args.self.now c.args.group c.from.result c.args.request q q' c.self.view_is at c.requires.group
    c.index_mut-queue.ensures.value c.in_ok-append.ensures.appended

pub returns-then-was_empty-clause-room : goal.returns-then-was_empty-clause-room
returns-then-was_empty-clause-room c =
    let qs = c.self.inside.queues.items in
    let at = c.from.ensures ∙ c.number.ensures.same in
    let q = c.index_mut-queue.result.now in
    let q' = c.append.new.self in
    set_room qs c.args.self.now c.args.group c.from.result c.args.request q q' c.self.view_is at c.requires.group
    c.index_mut-queue.ensures.value c.in_ok-append.ensures.room

pub returns-then-was_empty-clause-rooms_kept : goal.returns-then-was_empty-clause-rooms_kept
returns-then-was_empty-clause-rooms_kept c =
    let qs = c.self.inside.queues.items in
    let at = c.from.ensures ∙ c.number.ensures.same in
    let q = c.index_mut-queue.result.now in
    let q' = c.append.new.self in
    set_rooms qs c.args.self.now c.args.group c.from.result c.args.request q q' c.self.view_is at c.requires.group
    c.index_mut-queue.ensures.value

pub returns-else-was_empty-clause-appended : goal.returns-else-was_empty-clause-appended
returns-else-was_empty-clause-appended c =
    let qs = c.self.inside.queues.items in
    let at = c.from.ensures ∙ c.number.ensures.same in
    let q = c.index_mut-queue.result.now in
    let q' = c.append.new.self in
    set_appended qs c.args.self.now c.args.group c.from.result c.args.request q q' c.self.view_is at c.requires.group
    c.index_mut-queue.ensures.value c.in_ok-append.ensures.appended

pub returns-else-was_empty-clause-room : goal.returns-else-was_empty-clause-room
returns-else-was_empty-clause-room c =
    let qs = c.self.inside.queues.items in
    let at = c.from.ensures ∙ c.number.ensures.same in
    let q = c.index_mut-queue.result.now in
    let q' = c.append.new.self in
    set_room qs c.args.self.now c.args.group c.from.result c.args.request q q' c.self.view_is at c.requires.group
    c.index_mut-queue.ensures.value c.in_ok-append.ensures.room

pub returns-else-was_empty-clause-rooms_kept : goal.returns-else-was_empty-clause-rooms_kept
returns-else-was_empty-clause-rooms_kept c =
    let qs = c.self.inside.queues.items in
    let at = c.from.ensures ∙ c.number.ensures.same in
    let q = c.index_mut-queue.result.now in
    let q' = c.append.new.self in
    set_rooms qs c.args.self.now c.args.group c.from.result c.args.request q q' c.self.view_is at c.requires.group
    c.index_mut-queue.ensures.value
