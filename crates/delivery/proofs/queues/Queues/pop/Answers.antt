use Rattle.std.proofs.Common.{◌≡◌, ℕ, List, length, vec_capacity, sym, ap, ◌∙◌, subst}
use Rattle.skeen_core.specs.declared.packet.Delivered.{Delivered}
use Rattle.delivery.specs.Ready.{IsReady}
use Rattle.delivery.specs.Queues.{QueueView, requests_of, queue_of, IsSound}
use Rattle.delivery.specs.Taking.{popped}
use Rattle.delivery.specs.Heads.{AreCounted, AreKept, but}
use Rattle.delivery.proofs.Popping.{gone_sound, gone_uncounted, gone_kept}
use Rattle.delivery.proofs.Rows.{back, same_queues}
use Rattle.delivery.proofs.queues.Queues.pop.Goals as goal

pub count_heads-requires-clause-sound : goal.count_heads-requires-clause-sound
count_heads-requires-clause-sound c =
    let qs = c.self.inside.queues.items in
    let qs' = c.pop_heads.new.queues in
    let d = c.args.request.now in
    let now = c.deref_mut.ensures.value in
    let long : length qs' ≡ length qs = c.pop_heads.auto.queues ∙ ap (λ l. length l) now in
    let it = back qs' qs c.self.inside.queues.len long c.self.inside.queues.ok.0 in
    let is : (g : ℕ) → queue_of (requests_of qs') g ≡ popped d (queue_of (requests_of qs)) g =
    λ g. c.pop_heads.ensures.popped g ∙ ap (λ (l : List QueueView). popped d (queue_of (requests_of l)) g) now in
    subst (λ (l : List QueueView). IsSound (queue_of (requests_of l))) (sym (c.deref.ensures.value ∙ it))
    (gone_sound qs qs' d c.self.inside.ready.items c.self.inside.partly.items (vec_capacity c.self.inside.ready)
    (vec_capacity c.self.inside.partly) c.self.invariant long is)

pub count_heads-requires-clause-counted : goal.count_heads-requires-clause-counted
count_heads-requires-clause-counted c =
    let qs = c.self.inside.queues.items in
    let qs' = c.pop_heads.new.queues in
    let d = c.args.request.now in
    let now = c.deref_mut.ensures.value in
    let long : length qs' ≡ length qs = c.pop_heads.auto.queues ∙ ap (λ l. length l) now in
    let it = back qs' qs c.self.inside.queues.len long c.self.inside.queues.ok.0 in
    let is : (g : ℕ) → queue_of (requests_of qs') g ≡ popped d (queue_of (requests_of qs)) g =
    λ g. c.pop_heads.ensures.popped g ∙ ap (λ (l : List QueueView). popped d (queue_of (requests_of l)) g) now in
    let ready : IsReady (queue_of (requests_of qs)) d =
    subst (λ l. IsReady (queue_of l) d) (sym (same_queues qs c.args.self.now c.self.view_is)) c.requires in
    let then = gone_uncounted qs qs' d c.self.inside.ready.items c.self.inside.partly.items (vec_capacity c.self.inside.ready)
    (vec_capacity c.self.inside.partly) c.self.invariant long is ready in
    subst (λ (l : List QueueView). AreCounted (but d.groups (queue_of
    (requests_of l))) c.take_ready.new.ready.items c.self.inside.partly.items)
    (sym (c.deref.ensures.value ∙ it))
    (subst (λ (ds : List Delivered). AreCounted (but d.groups (queue_of (requests_of qs'))) ds c.self.inside.partly.items)
    (sym c.take_ready.ensures.items) then)

pub invariant_of-self : goal.invariant_of-self
invariant_of-self c =
    let qs = c.self.inside.queues.items in
    let qs' = c.pop_heads.new.queues in
    let d = c.args.request.now in
    let now = c.deref_mut.ensures.value in
    let long : length qs' ≡ length qs = c.pop_heads.auto.queues ∙ ap (λ l. length l) now in
    let it = back qs' qs c.self.inside.queues.len long c.self.inside.queues.ok.0 in
    let is : (g : ℕ) → queue_of (requests_of qs') g ≡ popped d (queue_of (requests_of qs)) g =
    λ g. c.pop_heads.ensures.popped g ∙ ap (λ (l : List QueueView). popped d (queue_of (requests_of l)) g) now in
    let counted = subst (λ (l : List QueueView). AreCounted (queue_of (requests_of l)) c.count_heads.new.ready.items
    c.count_heads.new.partly.items) (c.deref.ensures.value ∙ it) c.count_heads.ensures.counted in
    subst (λ (l : List QueueView). AreKept (requests_of l) c.count_heads.new.ready.items c.count_heads.new.partly.items
    (vec_capacity c.count_heads.new.ready) (vec_capacity c.count_heads.new.partly)) (sym it)
    (gone_kept qs qs' d c.self.inside.ready.items c.self.inside.partly.items (vec_capacity c.self.inside.ready)
    (vec_capacity c.self.inside.partly) c.self.invariant long is
    c.count_heads.new.ready.items c.count_heads.new.partly.items (vec_capacity c.count_heads.new.ready)
    (vec_capacity c.count_heads.new.partly) counted (c.count_heads.ensures.ready_capacity ∙ c.take_ready.ensures.capacity)
    c.count_heads.ensures.partly_capacity)

pub returns-clause-popped : goal.returns-clause-popped
returns-clause-popped c =
    let qs = c.self.inside.queues.items in
    let qs' = c.pop_heads.new.queues in
    let d = c.args.request.now in
    let now = c.deref_mut.ensures.value in
    let long : length qs' ≡ length qs = c.pop_heads.auto.queues ∙ ap (λ l. length l) now in
    let it = back qs' qs c.self.inside.queues.len long c.self.inside.queues.ok.0 in
    let is : (g : ℕ) → queue_of (requests_of qs') g ≡ popped d (queue_of (requests_of qs)) g =
    λ g. c.pop_heads.ensures.popped g ∙ ap (λ (l : List QueueView). popped d (queue_of (requests_of l)) g) now in
    ap (λ l. queue_of (requests_of l)) it ∙ (λ i g. is g i) ∙ ap (λ l. popped d (queue_of l))
    (same_queues qs c.args.self.now c.self.view_is)
