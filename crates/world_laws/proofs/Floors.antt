-- The floors that connections have between their requests.
use Rattle.std.proofs.Common.{◌≡◌, ℕ, List, [], ◌∷◌, ◌⊎◌, inl, inr, Option, Some, None, refl, sym, ap, ◌∙◌, subst, arith}
use Rattle.journal.specs.declared.step.Step.{Step}
use Rattle.journal.specs.declared.step.Step.TheVariants.{Open, Submit, Deliver, Take, Run, Settle, Collect, Close, Repeat}
use Rattle.placement.specs.Layout.{Layout}
use Rattle.groups.proofs.Lists.{In-right}
use Rattle.groups.proofs.Stamps.{final_within}
use Rattle.groups.specs.Order.{In}
use Rattle.groups.specs.Stamp.{final}
use Rattle.groups.specs.declared.request.RequestId.{RequestId}
use Rattle.groups.specs.declared.stamp.Stamp.{Stamp}
use Rattle.sessions.specs.Session.{Answer, Now, Go}
use Rattle.tasks.specs.Tasks.{Task, task_groups}
use Rattle.world.specs.Steps.{Effect, next_id, clock_of, final_clock, final_clock_of, floor_of, submitted_to, submitted, Collects, Steps}
use Rattle.world.specs.Steps.{remembered, answer_to}
use Rattle.world.specs.World.{World, Request, Standing, Closed, Idle, Waiting, Answered, Ended, HasRun}
use Rattle.world_laws.specs.Conditions.{SettledIsLast, FloorsAreFinal, IsFree, FloorsStay}
use Rattle.world_laws.specs.Good.{Among, ConnectionsGood, WorldGood}
use Rattle.world_laws.proofs.Arrivals.{arrival}
use Rattle.world_laws.proofs.Groups.{AskedMore}
use Rattle.world_laws.proofs.OrderLaws.{ended_as_submitted}
use Rattle.world_laws.proofs.Receipts.{among_arrives}
use Rattle.world_laws.proofs.Requests.{asks_more, next_is_new, Rested}
use Rattle.world_laws.proofs.Worlds.{good_remembered, rested, run_is_pending, good_world}
use Rattle.world_laws.proofs.Values.{same_request, idle_open, idle_not_waiting, answered_open, answered_not_waiting}

-- the floor, where the last request and its final stamp are known
pub floor_is : (w : World) (c : ℕ) (l : RequestId) (q : Request) (s : Stamp) → w.last c ≡ Some l → w.asked l ≡ Some q →
    final (w.proposed l) q.groups ≡ Some s → floor_of w c ≡ s.clock
floor_is w c l q s is named stamp = ap (final_clock_of w) is ∙ ap (final_clock w.proposed l) named ∙ ap clock_of stamp

pub floor_is_final : (t : Layout) (w : World) → WorldGood t w → (c : ℕ) (e : Ended) → In e w.ended → w.last c ≡ Some e.id →
    floor_of w c ≡ e.stamp.clock
floor_is_final t w good c e there is = let it = ended_as_submitted t w good e there in
    floor_is w c e.id it.0 e.stamp is it.1.submitted it.1.stamp

pub floors_are_final : FloorsAreFinal
floors_are_final t steps w leads c e there is = floor_is_final t w (good_world t steps w leads) c e there is

-- the request that a connection waits for is its last
pub run_is_last : (t : Layout) (w : World) (es : List Ended) → w.layer ≡ HasRun es → WorldGood t w → (e : Ended) → In e es →
    (w.standing e.id.conn.0 ≡ Closed) ⊎ (w.last e.id.conn.0 ≡ Some e.id)
run_is_last t w es is good e there = elim (run_is_pending t w es is good e there) [
  | inl closed ↦ inl closed
  | inr waiting ↦
      let connections = subst (λ l. ConnectionsGood w.opened w.standing w.seq w.last w.asked w.ended l) is good.connections in
      let at_end : In e w.ended = subst (λ l. In e l) (sym connections.split) (In-right e connections.settled es there) in
      let named = good.run.tasks e at_end in
      let latest = good.requests.latest e.id named.0 named.1 in
      let of_last = good.requests.lasts e.id.conn.0 latest.0 latest.1 in
      let fresh = good.requests.fresh latest.0 of_last.1.0 of_last.1.1 in
      let same : w.seq latest.0.conn.0 ≡ w.seq e.id.conn.0 = ap w.seq of_last.0 in
      let at_seq = waiting.1 in let low = latest.2 in let high = fresh.1 in
      let seqs : latest.0.seq ≡ e.id.seq = omega arith in
      inr (latest.1 ∙ ap Some (same_request latest.0 e.id of_last.0 seqs))
]

pub settled_is_last : SettledIsLast
settled_is_last t steps w leads outcomes is e there = run_is_last t w outcomes is (good_world t steps w leads) e there

-- ---- a step changes no floor of a connection that is free

-- what is asked and proposed stays
asked_submitted_to : (t : Layout) (old : World) (c : ℕ) (task : Task) (gs : List ℕ) → WorldGood t old →
    AskedMore old.asked (submitted_to old c task gs).asked
asked_submitted_to t old c task [] good = λ i q e. e
asked_submitted_to t old c task (g ∷ gs) good =
    asks_more old.asked (next_id old c) _ (next_is_new t old.asked old.proposed old.seq old.last c good.requests)

asked_submitted : (t : Layout) (old : World) (c : ℕ) (r : Answer) → WorldGood t old →
    AskedMore old.asked (submitted t old c r).asked
asked_submitted t old c (Go task) good = asked_submitted_to t old c task (task_groups t task) good
asked_submitted t old c (Now reply) good = λ i q e. e

proposed_submitted_to : (old : World) (c : ℕ) (task : Task) (gs : List ℕ) → (submitted_to old c task gs).proposed ≡ old.proposed
proposed_submitted_to old c task [] = refl
proposed_submitted_to old c task (g ∷ gs) = refl

proposed_submitted : (t : Layout) (old : World) (c : ℕ) (r : Answer) → (submitted t old c r).proposed ≡ old.proposed
proposed_submitted t old c (Go task) = proposed_submitted_to old c task (task_groups t task)
proposed_submitted t old c (Now reply) = refl

abbrev pub KnowsMore : World → World → Type 0
KnowsMore old new = AskedMore old.asked new.asked × Among old.proposed new.proposed

knows_same : (old new : World) → new.asked ≡ old.asked → new.proposed ≡ old.proposed → KnowsMore old new
knows_same old new a p = (
  λ i q e. ap (λ (f : RequestId → Option Request). f i) a ∙ e,
  λ i g n e. ap (λ (f : RequestId → ℕ → Option ℕ). f i g) p ∙ e,
)

knows_collects : (old new : World) (c : ℕ) (s : Standing) (effect : Effect) → Collects s old c effect new → KnowsMore old new
knows_collects old new c Closed effect step = absurd step
knows_collects old new c Idle effect step = knows_same old new (ap (λ (w : World). w.asked) step.1) (ap (λ (w : World). w.proposed) step.1)
knows_collects old new c Waiting effect step = knows_same old new (ap (λ (w : World). w.asked) step.1)
    (ap (λ (w : World). w.proposed) step.1)
knows_collects old new c (Answered o) effect step = knows_same old new (ap (λ (w : World). w.asked) step.1)
    (ap (λ (w : World). w.proposed) step.1)

-- what was submitted and proposed stays so at each step
pub knows_more : (t : Layout) (old new : World) (step : Step) (effect : Effect) → Steps t old step effect new → WorldGood t old →
    KnowsMore old new
knows_more t old new Open effect s good = knows_same old new (ap (λ (w : World). w.asked) s.after) (ap (λ (w : World). w.proposed) s.after)
knows_more t old new (Submit conn words) effect s good = subst (λ w. KnowsMore old w) (sym s.after) (
  asked_submitted t (remembered old conn.0 words) conn.0 (answer_to old conn.0 words) (good_remembered t old conn.0 words s.idle good),
  λ i g n e. ap (λ (f : RequestId → ℕ → Option ℕ). f i g)
      (proposed_submitted t (remembered old conn.0 words) conn.0 (answer_to old conn.0 words)) ∙ e,
)
knows_more t old new (Deliver k) effect s good = (
  λ i q e. ap (λ (w : World). w.asked i) s.after ∙ e,
  among_arrives old new k s.packet (arrival t old new k effect s good),
)
knows_more t old new Take effect s good = knows_same old new (ap (λ (w : World). w.asked) s.after) (ap (λ (w : World). w.proposed) s.after)
knows_more t old new (Run starved) effect s good = knows_same old new (ap (λ (w : World). w.asked) s.after)
    (ap (λ (w : World). w.proposed) s.after)
knows_more t old new Settle effect s good = knows_same old new (ap (λ (w : World). w.asked) s.after)
    (ap (λ (w : World). w.proposed) s.after)
knows_more t old new (Collect conn) effect s good = knows_collects old new conn.0 (old.standing conn.0) effect s
knows_more t old new (Close conn) effect s good = knows_same old new (ap (λ (w : World). w.asked) s.after)
    (ap (λ (w : World). w.proposed) s.after)
knows_more t old new (Repeat k) effect s good = knows_same old new (ap (λ (w : World). w.asked) s.after)
    (ap (λ (w : World). w.proposed) s.after)

free_rested : (t : Layout) (w : World) (c : ℕ) (s : Standing) → w.standing c ≡ s → IsFree s → WorldGood t w →
    Rested w.asked w.proposed w.last c (floor_of w c)
free_rested t w c Closed is free good = absurd free
free_rested t w c Idle is free good = rested t w c Idle is idle_open idle_not_waiting good
free_rested t w c Waiting is free good = absurd free
free_rested t w c (Answered o) is free good = rested t w c (Answered o) is (answered_open o) (answered_not_waiting o) good

pub floor_stays : (t : Layout) (old new : World) (step : Step) (effect : Effect) → Steps t old step effect new → WorldGood t old →
    (c : ℕ) → IsFree (old.standing c) → new.last c ≡ old.last c → floor_of new c ≡ floor_of old c
floor_stays t old new step effect s good c free lasts = by_last (old.last c) refl
  where
    by_last : (o : Option RequestId) → old.last c ≡ o → floor_of new c ≡ floor_of old c
    by_last None is = ap (final_clock_of new) (lasts ∙ is) ∙ sym (ap (final_clock_of old) is)
    by_last (Some l) is =
        let q = (good.requests.lasts c l is).1 in
        let stamp = (free_rested t old c (old.standing c) refl free good).stamp l q.0 is q.1 in
        let more = knows_more t old new step effect s good in
        floor_is new c l q.0 stamp.0 (lasts ∙ is) (more.0 l q.0 q.1)
        (final_within (old.proposed l) (new.proposed l) q.0.groups stamp.0 (λ g n e. more.1 l g n e) stamp.1) ∙ stamp.2

pub floors_stay : FloorsStay
floors_stay t steps old new step effect leads s c free lasts =
    floor_stays t old new step effect s (good_world t steps old leads) c free lasts
