-- A request that passes is submitted, delivered and taken by the world, one after the other.
use Rattle.std.proofs.Common.{◌≡◌, ℕ, zero, suc, ◌+◌, ◌*◌, ◌<◌, ◌≤◌, ◌==◌, true, List, [], ◌∷◌, ◌++◌, length, slice_get, Some, inl, inr, refl}
use Rattle.std.proofs.Common.{sym, ap, ◌∙◌, subst, arith, eqb-true}
use Rattle.std.proofs.lemmas.Bool.{both_ways, or_cases}
use Rattle.std.proofs.lemmas.Nat.{mul-le}
use Rattle.delivery.specs.Queues.{queue_of, IsSound}
use Rattle.delivery.proofs.Layers.{one_is_ready}
use Rattle.delivery.specs.Ready.{QueueOf}
use Rattle.front.proofs.Delivering.{may_be_delivered}
use Rattle.front.proofs.Messages.{begins_roomless, submit_makes, delivers_roomless, deliver_makes}
use Rattle.front.proofs.Showing.{stepped, once_made}
use Rattle.front.proofs.TakeMakes.{taken_front, take_may_start, take_makes, once_taken_out, loses_roomless}
use Rattle.front.specs.Fronts.{FrontView, IsFront, roomless}
use Rattle.front.specs.Layers.{AreJobs}
use Rattle.front.specs.Looking.{IsQuiet}
use Rattle.front.specs.Making.{Makes}
use Rattle.front.specs.Passing.{Arrives, TakesAtOnce, MayPass, packets_in}
use Rattle.front.specs.Taking.{IsTaking, Takes}
use Rattle.groups.specs.declared.request.ConnId.{ConnId}
use Rattle.groups.specs.declared.request.RequestId.{RequestId}
use Rattle.journal.specs.declared.step.Step.TheVariants.{Submit, Deliver}
use Rattle.layer_planner.specs.declared.job.Job.{Job}
use Rattle.groups.specs.GroupSet.{has}
use Rattle.multicast.specs.Multicast.{MulticastView, IsSame, Begins, MayAppendAll, MayBeDelivered, Passes, group_of, starts_to, packets_of}
use Rattle.multicast.specs.Multicast as multicast
use Rattle.placement.specs.Layout.{Layout}
use Rattle.router.specs.Router.{RouterView}
use Rattle.router.specs.Submitting.{Submits}
use Rattle.router.specs.declared.submission.Submission.{Submission}
use Rattle.skeen_core.specs.Group.{GroupView, MayCome, Receives}
use Rattle.skeen_core.specs.declared.packet.Body.TheVariants.{Start}
use Rattle.skeen_core.specs.declared.packet.Delivered.{Delivered}
use Rattle.skeen_core.specs.declared.packet.Packet.{Packet}
use Rattle.world.specs.Steps.{Submitted, Made}
use Rattle.world.specs.World.{World}
use Rattle.world_laws.proofs.ConditionLaws.{queues_are_sound}

-- ---- the multicast

-- whether a packet may come is asked of the groups and the queues alone
pub may_come_beside : (old new : MulticastView) (p : Packet) → new.groups ≡ old.groups → new.queues ≡ old.queues → MayBeDelivered old p →
    MayBeDelivered new p
may_come_beside old new p groups queues may = record {
  there = subst (λ (gs : List GroupView). p.to < length gs) (sym groups) may.there;
  comes = subst (λ gs. MayCome p.to (group_of gs p.to) p) (sym groups) may.comes;
  appends = λ sent ds state receives.
      subst (λ qs. MayAppendAll (queue_of qs) p.to ds) (sym queues)
      (may.appends sent ds state (subst (λ gs. Receives p.to (group_of gs p.to) p.id p.body sent ds state) groups receives));
}

-- room is no part of what is shown
pub passes_roomless : (old mid new : MulticastView) (id : RequestId) (floor : ℕ) (groups : List ℕ) (d : Delivered) → IsSame old mid →
    Passes mid id floor groups d new → Passes (roomless old) id floor groups d (roomless new)
passes_roomless old mid new id floor groups d same passes = record {
  groups = passes.groups;
  begun = roomless passes.begun;
  begins = begins_roomless old mid passes.begun id floor groups same passes.begins;
  come = roomless passes.come;
  arrives = arrives_roomless (packets_of groups) passes.begun passes.come passes.arrives;
  layer = passes.layer;
  taken = λ sound. loses_roomless passes.come new (d ∷ []) (passes.taken sound);
}
  where
    arrives_roomless : (n : ℕ) (a b : MulticastView) → multicast.Arrives n a b → multicast.Arrives n (roomless a) (roomless b)
    arrives_roomless zero a b same = ap roomless same
    arrives_roomless (suc n) a b (mid, first, rest) =
        (roomless mid, delivers_roomless a mid 0 first, arrives_roomless n mid b rest)

-- a Start is under way to each of the groups
start_of : (id : RequestId) (floor : ℕ) (all gs : List ℕ) (g : ℕ) → has gs g ≡ true →
    (k : ℕ) × (slice_get (starts_to id floor all gs) k ≡ Some (record { to = g; id = id; body = Start floor all }))
start_of id floor all [] g there = absurd (both_ways _ refl there)
start_of id floor all (x ∷ gs) g there = elim (or_cases (x == g) (has gs g) there) [
  | inl here ↦ (0, ap (λ (h : ℕ). Some (record { to = h; id = id; body = Start floor all })) (eqb-true x g here))
  | inr rest ↦ let it = start_of id floor all gs g rest in (suc it.0, it.1)
]

-- ---- the front

-- the front that has taken a request of so many groups at once
abbrev pub passed_front : FrontView → RouterView → MulticastView → List Delivered → ℕ → FrontView
passed_front f r m out n = record f { router = r; multicast = m; out = out; steps = f.steps + (n * n + 2) }

-- packets come one after another, and the front is as each front is
come_one_by_one : (n : ℕ) (f : FrontView) (m : MulticastView) (k : ℕ) → k ≡ f.steps + n → IsFront f → multicast.Arrives n f.multicast m
    → Arrives n f (record f { multicast = m; steps = k }) × IsFront (record f { multicast = m; steps = k })
come_one_by_one zero f m k sum is same =
    let steps : k ≡ f.steps = omega (arith, sum) in
    let still : record f { multicast = m; steps = k } ≡ f = λ i. record f { multicast = same i; steps = steps i } in
    (still, subst IsFront (sym still) is)
come_one_by_one (suc n) f m k sum is (mid, first, rest) =
    let makes = deliver_makes f mid 0 first in
    let one = stepped f f.router mid in
    let is_one = once_made f one is (Deliver 0) tt Made makes in
    let others = come_one_by_one n one m k (omega (arith, sum)) is_one rest in
    ((one, makes, others.0), others.1)

module _ (old : FrontView) (is : IsFront old) (conn : ConnId) (words : List (List ℕ)) (sent : Submission) (r : RouterView)
    (submits : Submits old.table conn.0 words old.router sent r) where
  module _ (m : MulticastView) (begins : Begins old.multicast sent.id sent.floor sent.groups m) where
    -- it was submitted, and no more
    pub begun_makes : Makes old (Submit conn words) (Submitted sent.id) (stepped old r m)
    begun_makes = submit_makes old r m conn words sent is.is_table submits begins

    pub once_begun : IsFront (stepped old r m)
    once_begun = once_made old (stepped old r m) is (Submit conn words) tt (Submitted sent.id) begun_makes

  -- one of its Starts
  abbrev start_to : ℕ → Packet
  start_to g = record { to = g; id = sent.id; body = Start sent.floor sent.groups }

  -- it may come to its group
  pub start_may_come : MayPass old → old.multicast.packets ≡ [] → (g : ℕ) → has sent.groups g ≡ true →
      MayBeDelivered old.multicast (start_to g)
  start_may_come few none g member =
      let its = start_of sent.id sent.floor sent.groups sent.groups g member in
      let begun : MulticastView =
      record old.multicast { packets = old.multicast.packets ++ starts_to sent.id sent.floor sent.groups sent.groups } in
      let front = once_begun begun (record { groups = refl; packets = refl; queues = refl }) in
      let count = front.count in
      may_come_beside begun old.multicast (start_to g) refl refl
      (may_be_delivered old.table begun front.world front.history front.at.leads (omega arith) front.at.shows.multicast its.0 (start_to g)
      (ap (λ (ps : List Packet). slice_get (ps ++ starts_to sent.id sent.floor sent.groups sent.groups) its.0) none ∙ its.1))

  module _ (quiet : IsQuiet old) (d : Delivered) (m : MulticastView)
      (passes : Passes old.multicast sent.id sent.floor sent.groups d m) where
    -- the front once the Starts are under way
    abbrev begun : FrontView
    begun = stepped old r passes.begun

    -- and once all packets have come
    abbrev come : FrontView
    come = record begun { multicast = passes.come; steps = begun.steps + packets_of sent.groups }

    come_after : Arrives (packets_of sent.groups) begun come × IsFront come
    come_after = come_one_by_one (packets_of sent.groups) begun passes.come come.steps refl
        (once_begun passes.begun passes.begins) passes.arrives

    once_come : IsFront come
    once_come = come_after.1

    -- what stands in the queues is sound, as in each world
    sound : IsSound (queue_of passes.come.queues)
    sound = subst (λ (q : QueueOf). IsSound q) (λ k g. sym (once_come.at.shows.multicast.queues g) k)
        (queues_are_sound old.table once_come.history once_come.world once_come.at.leads)

    -- the request may be taken then
    pub may_be_taken : (t : Layout) × (w : World) × IsTaking t w [] (d ∷ []) r
    may_be_taken = take_may_start come quiet.out (d ∷ []) passes.layer once_come

    module _ (r' : RouterView) (jobs : List Job) (out : List Delivered) (is_out : out ≡ d ∷ [])
        (takes : (t : Layout) (w : World) → IsTaking t w [] (d ∷ []) r → IsTaking t w (d ∷ []) [] r' × AreJobs w.asked (d ∷ []) jobs) where
      -- its steps, counted at once
      counted : ((old.steps + 1) + packets_of sent.groups) + 1 ≡ old.steps + (length sent.groups * length sent.groups + 2)
      counted = omega arith

      -- it is taken, and is out
      taken : Takes come jobs (passed_front old r' m out (length sent.groups))
      taken =
          subst (λ (n : ℕ). Takes come jobs (record old { router = r'; multicast = m; out = out; steps = n })) counted
          (subst (λ ds. Takes come jobs (taken_front come r' m ds)) (sym is_out)
          (take_makes come quiet.out (d ∷ []) passes.layer (λ e. let k = e in cc) r' m jobs takes (passes.taken sound)))

      -- the layer has the groups of the request
      packets : packets_in jobs ≡ packets_of sent.groups
      packets = of_one jobs (takes may_be_taken.0 may_be_taken.1 may_be_taken.2).1
        where
          of_one : (js : List Job) → AreJobs may_be_taken.1.asked (d ∷ []) js → packets_in js ≡ packets_of sent.groups
          of_one [] none = absurd none
          of_one (j ∷ js) (job, rest) = ap packets_of (job.groups ∙ passes.groups)

      pub takes_at_once : length sent.groups ≤ 8 →
          TakesAtOnce old conn words sent.id jobs (passed_front old r' m out (length sent.groups))
      takes_at_once few = record {
        begun = begun;
        submits = begun_makes passes.begun passes.begins;
        come = come;
        arrives = subst (λ n. Arrives n begun come) (sym packets) come_after.0;
        few = subst (λ n. n ≤ 64) (sym packets) (mul-le (length sent.groups) (length sent.groups) 8 8 few few);
        free = quiet.out;
        ready = one_is_ready (queue_of passes.come.queues) d (passes.layer.only d (inl refl));
        takes = taken;
      }

      pub once_passed : IsFront (passed_front old r' m out (length sent.groups))
      once_passed = once_taken_out come (passed_front old r' m out (length sent.groups)) jobs once_come taken
