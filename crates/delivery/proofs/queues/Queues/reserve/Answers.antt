use Rattle.std.proofs.Common.{◌≤◌, slice_set, ap, sym, ◌∙◌, subst, OnOk, vec_capacity}
use Rattle.delivery.specs.Queues.{rooms_of, room_of}
use Rattle.delivery.specs.Heads.{AreKept}
use Rattle.delivery.proofs.Rows.{requests_kept, rooms_kept, room_set, has_place, same_queues, same_rooms}
use Rattle.delivery.proofs.queues.Queues.reserve.Goals as goal

pub invariant_of-self : goal.invariant_of-self
invariant_of-self c =
    let qs = c.self.inside.queues.items in
    let low = has_place qs c.args.self.now c.args.group c.from.result c.self.view_is (c.from.ensures ∙ c.number.ensures.same) c.requires in
    let same = requests_kept qs c.from.result c.index_mut-queue.result.now c.reserve.new.self low c.index_mut-queue.ensures.value
    c.reserve.ensures.requests in
    subst (λ l. AreKept l c.self.inside.ready.items c.self.inside.partly.items (vec_capacity c.self.inside.ready)
    (vec_capacity c.self.inside.partly)) (sym same) c.self.invariant

pub returns-clause-queues : goal.returns-clause-queues
returns-clause-queues c =
    let qs = c.self.inside.queues.items in
    let low = has_place qs c.args.self.now c.args.group c.from.result c.self.view_is (c.from.ensures ∙ c.number.ensures.same) c.requires in
    requests_kept qs c.from.result c.index_mut-queue.result.now c.reserve.new.self low c.index_mut-queue.ensures.value
    c.reserve.ensures.requests
    ∙ same_queues qs c.args.self.now c.self.view_is

pub returns-clause-room : goal.returns-clause-room
returns-clause-room c =
    let qs = c.self.inside.queues.items in
    let at = c.from.ensures ∙ c.number.ensures.same in
    let low = has_place qs c.args.self.now c.args.group c.from.result c.self.view_is at c.requires in
    let here = ap (λ g. room_of (rooms_of (slice_set qs c.from.result c.reserve.new.self)) g) (sym at)
    ∙ room_set qs c.from.result c.reserve.new.self low in
    subst (λ n. OnOk c.reserve.result (c.args.count ≤ n)) (sym here) c.reserve.ensures.room

pub returns-clause-rooms_kept : goal.returns-clause-rooms_kept
returns-clause-rooms_kept c = λ g.
    let qs = c.self.inside.queues.items in
    let low = has_place qs c.args.self.now c.args.group c.from.result c.self.view_is (c.from.ensures ∙ c.number.ensures.same) c.requires in
    subst (λ rs. room_of rs g ≤ room_of (rooms_of (slice_set qs c.from.result c.reserve.new.self)) g)
    (same_rooms qs c.args.self.now c.self.view_is)
    (rooms_kept qs c.from.result c.index_mut-queue.result.now c.reserve.new.self low c.index_mut-queue.ensures.value
    c.reserve.ensures.room_kept g)
