-- What callees ask follows from what every world is like.
use Rattle.std.proofs.Common.{◌≡◌, ℕ, ◌≤◌, ◌==◌, true, false, List, [], ◌∷◌, ◌++◌, inl, inr, length, refl, sym, ap, ◌∙◌, subst, arith}
use Rattle.std.proofs.Common.{eqb-true, eq-eqb, append_assoc}
use Rattle.std.proofs.lemmas.Bool.{cases_Bool}
use Rattle.delivery.specs.Queues.{is_above_last, MayAppend, IsSound}
use Rattle.groups.specs.GroupSet.{has}
use Rattle.placement.specs.Layout.{Layout}
use Rattle.groups.proofs.Lists.{In-left, In-right}
use Rattle.skeen_core.specs.Group.{Ascending, is_past, BodyMayCome, MayCome}
use Rattle.groups.specs.Order.{In}
use Rattle.groups.specs.Stamp.{stamp_lt, final}
use Rattle.skeen_core.specs.declared.packet.Body.{Body}
use Rattle.skeen_core.specs.declared.packet.Body.TheVariants.{Start, Proposal}
use Rattle.skeen_core.specs.declared.packet.Delivered.{Delivered}
use Rattle.skeen_core.specs.declared.packet.Packet.{Packet}
use Rattle.groups.specs.declared.request.RequestId.{RequestId}
use Rattle.groups.specs.declared.stamp.Stamp.{Stamp}
use Rattle.tasks.specs.Tasks.{task_groups}
use Rattle.world.specs.Steps.{at, Effect, Comes}
use Rattle.world.specs.World.{World, Request, Ended, Taken}
use Rattle.world_laws.specs.Good.{BodyGood, IsOut, log_of, delivered_of, all_delivered, all_taken, Touching, TakenGood, WorldGood, Bounded}
use Rattle.world_laws.specs.Order.{HasFinal}
use Rattle.world_laws.specs.Conditions.{PacketsMayCome, FreshIsHeard, QueuesAreSound, DeliveriesMayAppend, LayersAreSubmitted}
use Rattle.world_laws.specs.Conditions.{LayersAreAbove, SettledIsWaitedFor, NumbersAreBounded}
use Rattle.world_laws.proofs.Bounds.{bounded_world}
use Rattle.world_laws.proofs.Layers.{in_delivered, known_same, ascending_cross, ascending_right}
use Rattle.world_laws.proofs.Lists.{rising_cross}
use Rattle.world_laws.proofs.OrderLaws.{known_final, differ_good}
use Rattle.world_laws.proofs.Packets.{body_addressed}
use Rattle.world_laws.proofs.Worlds.{keeps_deliver, run_is_pending, good_world}
use Rattle.std.proofs.lemmas.Bool.{cond-true, cond-false}
use Rattle.groups.proofs.Options.{some_same}
use Rattle.journal.specs.declared.trace.TheConstants.{GREATEST_STEPS}

-- ---- a group receives

body_may_come : (t : Layout) (w : World) (n to : ℕ) (id : RequestId) (body : Body) → WorldGood t w → Bounded w n → n ≤ GREATEST_STEPS →
    BodyGood w.asked w.proposed to id body → BodyMayCome to (w.group to) id body
body_may_come t w n to id (Start floor groups) good bounded few body =
    let low = bounded.floors id body.0.0 body.0.1 in let same = body.0.2 in
    (body.1, omega arith)
body_may_come t w n to id (Proposal from m) good bounded few body =
    let low = (good.skeen.groups from).clock id m body.0 in let high = bounded.clocks from in (
      body.1,
      omega arith,
      λ i e. (good.skeen.groups from).apart i id m ((good.skeen.groups to).heard i from m e) body.0,
      λ k e. some_same k m (sym ((good.skeen.groups to).heard id from k e) ∙ body.0),
    )

pub packet_may_come : (t : Layout) (w : World) (n : ℕ) (p : Packet) → WorldGood t w → Bounded w n → n ≤ GREATEST_STEPS → In p w.packets →
    MayCome p.to (w.group p.to) p
packet_may_come t w n p good bounded few there = record {
  to = refl;
  clock = let low = bounded.clocks p.to in omega arith;
  body = body_may_come t w n p.to p.id p.body good bounded few (good.skeen.sent p there);
}

pub packets_may_come : PacketsMayCome
packets_may_come t steps w leads few p there = packet_may_come t w (length steps) p (good_world t steps w leads)
    (bounded_world t steps w leads) few there

-- what its group hasn't delivered isn't past there
pub packet_is_fresh : (t : Layout) (w : World) (p : Packet) → WorldGood t w → In p w.packets → ¬ IsOut (log_of w p.to) p.id →
    is_past (w.group p.to) p.id ≡ false
packet_is_fresh t w p good there not_out =
    let named = body_addressed w.asked w.proposed p.to p.id p.body (good.skeen.sent p there) in
    elim (cases_Bool (is_past (w.group p.to) p.id)) [
      | inl past ↦ absurd (not_out (good.past p.id named.0 p.to named.1 named.2 past))
      | inr fresh ↦ fresh
    ]

pub fresh_is_heard : FreshIsHeard
fresh_is_heard t steps w leads p there not_out = packet_is_fresh t w p (good_world t steps w leads) there not_out

-- ---- a queue

-- two that were delivered anywhere are the same where their ids are, or their stamps
pub delivered_same : (t : Layout) (w : World) → WorldGood t w → (g h : ℕ) (d e : Delivered) → In d (log_of w g) → In e (log_of w h) →
    d.id ≡ e.id → d ≡ e
delivered_same t w good g h d e there here ids = known_same w.asked w.proposed d e ((good.skeen.groups g).known d there)
    ((good.skeen.groups h).known e here) ids

pub stamps_same : (t : Layout) (w : World) → WorldGood t w → (g h : ℕ) (d e : Delivered) → In d (log_of w g) → In e (log_of w h) →
    d.stamp ≡ e.stamp → d ≡ e
stamps_same t w good g h d e there here stamps =
    let group = good.skeen.groups g in let other = good.skeen.groups h in
    let a = known_final w g d (group.known d there) (group.member d there) in
    let b = known_final w h e (other.known e here) (other.member e here) in
    delivered_same t w good g h d e there here (differ_good t w good d.id e.id a.0 b.0 d.stamp a.2 (subst (λ s. HasFinal w e.id b.0 s)
    (sym stamps) b.2))

above_last : (q : List Delivered) (s : Stamp) → ((e : Delivered) → In e q → stamp_lt e.stamp s ≡ true) → is_above_last q s ≡ true
above_last [] s above = refl
above_last (d ∷ []) s above = above d (inl refl)
above_last (d ∷ e ∷ es) s above = above_last (e ∷ es) s (λ f there. above f (inr there))

pub queues_sound : (t : Layout) (w : World) → WorldGood t w → IsSound w.queue
queues_sound t w good = record {
  member = λ g d there. (good.skeen.groups g).member d (In-right d (w.gone g) (w.queue g) there);
  ascending = λ g. ascending_right (w.gone g) (w.queue g) (good.skeen.groups g).going.ascending;
  one_id = λ g h d e there here ids. delivered_same t w good g h d e (In-right d (w.gone g) (w.queue g) there)
      (In-right e (w.gone h) (w.queue h) here) ids;
  one_stamp = λ g h d e there here stamps. stamps_same t w good g h d e (In-right d (w.gone g) (w.queue g) there)
      (In-right e (w.gone h) (w.queue h) here) stamps;
}

pub queues_are_sound : QueuesAreSound
queues_are_sound t steps w leads = queues_sound t w (good_world t steps w leads)

pub delivery_may_append : (t : Layout) (old new : World) (k : ℕ) (effect : Effect) → WorldGood t old → (comes : Comes old k effect new) →
    (front : List Delivered) (d : Delivered) (back : List Delivered) →
    comes.delivered ≡ front ++ d ∷ back → MayAppend (at old.queue comes.packet.to (old.queue comes.packet.to ++ front)) comes.packet.to d
delivery_may_append t old new k effect before comes front d back split = record {
  member = (good.skeen.groups to).member d there;
  above = above_last (at old.queue to (old.queue to ++ front) to) d.stamp
      (λ e here. ascending_cross (old.gone to ++ (old.queue to ++ front)) (d ∷ back)
      (subst (λ l. Ascending l) whole (good.skeen.groups to).going.ascending) e d
      (In-right e (old.gone to) (old.queue to ++ front)
      (subst (λ l. In e l) (cond-true (to == to) (old.queue to ++ front) (old.queue to) (eq-eqb to to refl)) here)) (inl refl));
  same = λ h e here ids. let same = delivered_same t new good h to e d (earlier h e here) there ids in
      (ap (λ (x : Delivered). x.stamp) same, ap (λ (x : Delivered). x.groups) same);
  single = λ h e here stamps. ap (λ (x : Delivered). x.id) (stamps_same t new good h to e d (earlier h e here) there stamps);
}
  where
    to : ℕ
    to = comes.packet.to

    good : WorldGood t new
    good = keeps_deliver t old new k effect comes before

    -- what the group has delivered now
    whole : log_of new comes.packet.to ≡ (old.gone comes.packet.to ++ (old.queue comes.packet.to ++ front)) ++ d ∷ back
    whole =
        ap (λ (w : World). log_of w comes.packet.to) comes.after
        ∙ ap (λ l. old.gone comes.packet.to ++ l)
        (cond-true (comes.packet.to == comes.packet.to) (old.queue comes.packet.to ++ comes.delivered) (old.queue comes.packet.to)
        (eq-eqb comes.packet.to comes.packet.to refl))
        ∙ ap (λ l. old.gone comes.packet.to ++ (old.queue comes.packet.to ++ l)) split
        ∙ ap (λ l. old.gone comes.packet.to ++ l) (sym (append_assoc (old.queue comes.packet.to) front (d ∷ back)))
        ∙ sym (append_assoc (old.gone comes.packet.to) (old.queue comes.packet.to ++ front) (d ∷ back))

    there : In d (log_of new comes.packet.to)
    there = subst (λ l. In d l) (sym whole)
        (In-right d (old.gone comes.packet.to ++ (old.queue comes.packet.to ++ front)) (d ∷ back) (inl refl))

    -- what stands in a queue before it was delivered
    earlier : (h : ℕ) (e : Delivered) → In e (at old.queue comes.packet.to (old.queue comes.packet.to ++ front) h) → In e (log_of new h)
    earlier h e here = elim (cases_Bool (h == comes.packet.to)) [
      | inl at_to ↦
          let in_front = subst (λ l. In e l)
          (cond-true (h == comes.packet.to) (old.queue comes.packet.to ++ front) (old.queue h) at_to) here in
          subst (λ g. In e (log_of new g)) (sym (eqb-true h comes.packet.to at_to))
          (subst (λ l. In e l) (sym whole)
          (In-left e (old.gone comes.packet.to ++ (old.queue comes.packet.to ++ front)) (d ∷ back)
          (In-right e (old.gone comes.packet.to) (old.queue comes.packet.to ++ front) in_front)))
      | inr other ↦
          let in_queue = subst (λ l. In e l)
          (cond-false (h == comes.packet.to) (old.queue comes.packet.to ++ front) (old.queue h) other) here in
          let same : log_of new h ≡ old.gone h ++ old.queue h =
          ap (λ (w : World). log_of w h) comes.after
          ∙ ap (λ l. old.gone h ++ l) (cond-false (h == comes.packet.to) (old.queue comes.packet.to ++ comes.delivered)
          (old.queue h) other) in
          subst (λ l. In e l) (sym same) (In-right e (old.gone h) (old.queue h) in_queue)
    ]

pub deliveries_may_append : DeliveriesMayAppend
deliveries_may_append t steps old new k effect leads comes front d back split =
    delivery_may_append t old new k effect (good_world t steps old leads) comes front d back split

-- ---- the shards

pub layer_is_submitted : (t : Layout) (w : World) → WorldGood t w → (layer : List Delivered) → w.layer ≡ Taken layer → (d : Delivered) →
    In d layer → (q : Request) × HasFinal w d.id q d.stamp × (d.groups ≡ task_groups t q.task)
layer_is_submitted t w good layer is d there =
    let taken = subst (λ l. TakenGood w.asked w.proposed w.gone (all_taken w.ended l)) is good.taken in
    let known = taken.known d (In-right d (all_delivered w.ended) layer there) in (
      known.named.0,
      record { submitted = known.named.1; stamp = ap (λ gs. final (w.proposed d.id) gs) known.named.2 ∙ known.stamp },
      sym known.named.2 ∙ sym (good.requests.shaped d.id known.named.0 known.named.1).groups,
    )

pub layers_are_submitted : LayersAreSubmitted
layers_are_submitted t steps w leads layer is d there = layer_is_submitted t w (good_world t steps w leads) layer is d there

pub layer_is_above : (t : Layout) (w : World) → WorldGood t w → (layer : List Delivered) → w.layer ≡ Taken layer → (d : Delivered) →
    In d layer →
    (e : Ended) → In e w.ended → (g : ℕ) → has e.groups g ≡ true → has d.groups g ≡ true → stamp_lt e.stamp d.stamp ≡ true
layer_is_above t w good layer is d there e here g a b =
    let taken = subst (λ l. TakenGood w.asked w.proposed w.gone (all_taken w.ended l)) is good.taken in
    rising_cross Touching (all_delivered w.ended) layer taken.order (delivered_of e) d (in_delivered w.ended e here) there g a b

pub layers_are_above : LayersAreAbove
layers_are_above t steps w leads layer is d there e here g a b =
    layer_is_above t w (good_world t steps w leads) layer is d there e here g a b

-- ---- the router

pub settled_is_waited_for : SettledIsWaitedFor
settled_is_waited_for t steps w leads outcomes is e there = run_is_pending t w outcomes is (good_world t steps w leads) e there

pub numbers_are_bounded : NumbersAreBounded
numbers_are_bounded t steps w leads = bounded_world t steps w leads
