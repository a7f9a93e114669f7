-- A packet that comes in the system comes in the world, and may come; one that is repeated is repeated there.
use Rattle.std.proofs.Common.{◌≡◌, ℕ, zero, suc, ◌<◌, ◌≤◌, ◌==◌, true, false, cond, List, [], ◌∷◌, ◌++◌, inl, inr}
use Rattle.std.proofs.Common.{length, remove, slice_get, Some, refl, sym, ap, ◌∙◌, subst, eqb-true, eq-eqb, ltb-true}
use Rattle.std.proofs.Common.{append-nil, append_assoc}
use Rattle.std.proofs.Math.Seq.{append_snoc}
use Rattle.std.proofs.lemmas.Bool.{and_parts}
use Rattle.delivery.specs.Queues.{queue_of, MayAppend}
use Rattle.delivery.specs.Ready.{QueueOf}
use Rattle.groups.specs.GroupSet.{has}
use Rattle.groups.specs.GroupSetLaws.{has-chosen}
use Rattle.journal.specs.declared.step.Step.{Step}
use Rattle.multicast.specs.Multicast.{MulticastView, group_of, MayAppendAll, MayBeDelivered, Delivers}
use Rattle.multicast.specs.Multicast as multicast
use Rattle.placement.specs.Layout.{Layout}
use Rattle.groups.proofs.Options.{some_same}
use Rattle.skeen_core.specs.Group.{GroupState, GroupView, MayCome, Receives}
use Rattle.groups.specs.Order.{In}
use Rattle.skeen_core.specs.declared.packet.Delivered.{Delivered}
use Rattle.skeen_core.specs.declared.packet.Packet.{Packet}
use Rattle.tasks.specs.Tasks.{Task, task_groups}
use Rattle.front.specs.Multicast.{ShowsMulticast}
use Rattle.world.specs.Steps.{at, opening, Made, Comes, received, Repeats, Leads}
use Rattle.world.specs.World.{World, Request}
use Rattle.world_laws.proofs.ConditionLaws.{packets_may_come, deliveries_may_append}
use Rattle.world_laws.proofs.Worlds.{good_world}
use Rattle.world_laws.proofs.OrderLaws.{packets_go_to_addressed}
use Rattle.journal.specs.declared.trace.TheConstants.{GREATEST_STEPS}

-- what stands at a place stands in the list
pub stands : {X : Type 0} (xs : List X) (k : ℕ) (x : X) → slice_get xs k ≡ Some x → In x xs
stands [] k x e = absurd (let n = e in cc)
stands (y ∷ ys) zero x e = inl (sym (some_same y x e))
stands (y ∷ ys) (suc k) x e = inr (stands ys k x e)

-- a group of a task is one of the table's
pub group_below : (t : Layout) (task : Task) (g : ℕ) → has (task_groups t task) g ≡ true → g < t.shards
group_below t task g there = ltb-true g t.shards (and_parts _ _ (sym (has-chosen _ t.shards g) ∙ there)).0

-- ---- what is delivered may be appended

at_same : {X : Type 0} (f : ℕ → X) (g : ℕ) (x : X) → x ≡ f g → (h : ℕ) → at f g x h ≡ f h
at_same f g x e h = elim (h == g) as (λ b. (h == g) ≡ b → cond b x (f h) ≡ f h) [
  | true ↦ λ same. e ∙ ap f (sym (eqb-true h g same))
  | false ↦ λ other. refl
] refl

at_twice : {X : Type 0} (f : ℕ → X) (g : ℕ) (x y : X) (h : ℕ) → at (at f g x) g y h ≡ at f g y h
at_twice f g x y h = elim (h == g) as (λ b. cond b y (cond b x (f h)) ≡ cond b y (f h)) [ true ↦ refl | false ↦ refl ]

at_here : {X : Type 0} (f : ℕ → X) (g : ℕ) (x : X) → at f g x g ≡ x
at_here f g x = ap (λ b. cond b x (f g)) (eq-eqb g g refl)

module _ (queue : QueueOf) (g : ℕ) (all : List Delivered)
    (joins : (front : List Delivered) (d : Delivered) (back : List Delivered) → all ≡ front ++ d ∷ back →
    MayAppend (at queue g (queue g ++ front)) g d) where
  behind : (front : List Delivered) (ds : List Delivered) → all ≡ front ++ ds →
      MayAppendAll (at queue g (queue g ++ front)) g ds
  behind front [] split = tt
  behind front (d ∷ ds) split = (
    joins front d ds split,
    subst (λ q. MayAppendAll q g ds) (λ k h. sym (more h) k)
        (behind (front ++ d ∷ []) ds (split ∙ sym (append_snoc front d ds))),
  )
    where
      more : (h : ℕ) →
          at (at queue g (queue g ++ front)) g (at queue g (queue g ++ front) g ++ d ∷ []) h ≡ at queue g
          (queue g ++ (front ++ d ∷ [])) h
      more h =
          at_twice queue g (queue g ++ front) (at queue g (queue g ++ front) g ++ d ∷ []) h
          ∙ ap (λ (x : List Delivered). at queue g x h)
          (ap (λ (x : List Delivered). x ++ d ∷ []) (at_here queue g (queue g ++ front))
          ∙ append_assoc (queue g) front (d ∷ []))

  all_append : MayAppendAll queue g all
  all_append =
      subst (λ q. MayAppendAll q g all) (λ k h. at_same queue g (queue g ++ []) (append-nil (queue g)) h k)
      (behind [] all refl)

-- ---- a packet comes

module _ (t : Layout) (v : MulticastView) (w : World) (shows : ShowsMulticast t v w) where
  group_is : (g : ℕ) → group_of v.groups g ≡ w.group g
  group_is = shows.groups

  queues_are : queue_of v.queues ≡ w.queue
  queues_are = λ k g. shows.queues g k

  -- where a packet comes in the system it comes in the world
  pub shows_deliver : (new : MulticastView) (k : ℕ) → Delivers v k new →
      (w' : World) × Comes w k Made w' × ShowsMulticast t new w'
  shows_deliver new k d = (
    received w k d.packet d.sent d.delivered d.state,
    record {
      packet = d.packet;
      sent = d.sent;
      delivered = d.delivered;
      state = d.state;
      there = subst (λ ps. slice_get ps k ≡ Some d.packet) shows.packets d.there;
      receives =
          subst (λ s. Receives d.packet.to s d.packet.id d.packet.body d.sent d.delivered d.state)
          (group_is d.packet.to) d.receives;
      answers = refl;
      after = refl;
    },
    record {
      count = d.count ∙ shows.count;
      groups = λ g. d.group g ∙ ap (λ (f : ℕ → GroupState). at f d.packet.to d.state g) (λ i h. group_is h i);
      packets = d.packets ∙ ap (λ ps. remove ps k ++ d.sent) shows.packets;
      queues = λ g. d.queue g ∙ ap (λ (f : QueueOf). at f d.packet.to (f d.packet.to ++ d.delivered) g) queues_are;
    },
  )

  -- where a packet is repeated in the system it is in the world
  pub shows_repeat : (new : MulticastView) (k : ℕ) → multicast.Repeats v k new
      → (w' : World) × Repeats w k Made w' × ShowsMulticast t new w'
  shows_repeat new k d = (
    record w { packets = w.packets ++ d.packet ∷ [] },
    record {
      packet = d.packet;
      there = subst (λ ps. slice_get ps k ≡ Some d.packet) shows.packets d.there;
      answers = refl;
      after = refl;
    },
    record {
      count = ap (λ (gs : List GroupView). length gs) d.groups ∙ shows.count;
      groups = λ g. ap (λ gs. group_of gs g) d.groups ∙ group_is g;
      packets = d.packets ∙ ap (λ ps. ps ++ d.packet ∷ []) shows.packets;
      queues = λ g. ap (λ qs. queue_of qs g) d.queues ∙ ap (λ (f : QueueOf). f g) queues_are;
    },
  )

module _ (t : Layout) (v : MulticastView) (w : World) (steps : List Step) (leads : Leads t opening steps w)
    (few : length steps ≤ GREATEST_STEPS) (shows : ShowsMulticast t v w) where
  -- each packet under way may come, and what is delivered then may be appended
  pub may_be_delivered : (k : ℕ) (p : Packet) → slice_get v.packets k ≡ Some p → MayBeDelivered v p
  may_be_delivered k p found =
      let there = subst (λ ps. slice_get ps k ≡ Some p) shows.packets found in
      let under_way = stands w.packets k p there in
      let to = packets_go_to_addressed t steps w leads p under_way in
      record {
        there = subst (λ n. p.to < n) (sym shows.count) (below to.0 to.1 to.2);
        comes = subst (λ s. MayCome p.to s p) (sym (group_is t v w shows p.to))
            (packets_may_come t steps w leads few p under_way);
        appends = λ sent ds state receives.
            let receives' = subst (λ s. Receives p.to s p.id p.body sent ds state) (group_is t v w shows p.to) receives in
            let comes : Comes w k Made (received w k p sent ds state) =
            record {
              packet = p;
              sent = sent;
              delivered = ds;
              state = state;
              there = there;
              receives = receives';
              answers = refl;
              after = refl;
            } in
            subst (λ q. MayAppendAll q p.to ds) (sym (queues_are t v w shows))
            (all_append w.queue p.to ds
            (deliveries_may_append t steps w (received w k p sent ds state) k Made leads comes));
      }
    where
      below : (q : Request) → w.asked p.id ≡ Some q → has q.groups p.to ≡ true → p.to < t.shards
      below q asked member =
          let shaped = (good_world t steps w leads).requests.shaped p.id q asked in
          group_below t q.task p.to (subst (λ gs. has gs p.to ≡ true) (sym shaped.groups) member)
