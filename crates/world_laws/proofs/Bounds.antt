-- No number of a world is above the number of steps that led to it.
use Rattle.std.proofs.Common.{◌≡◌, ℕ, suc, ◌+◌, ◌≤◌, ◌==◌, ◌&&◌, true, false, cond, inl, inr}
use Rattle.std.proofs.Common.{List, [], ◌∷◌, length, Option, Some}
use Rattle.std.proofs.Common.{None, refl, sym, ap, subst, arith}
use Rattle.std.proofs.lemmas.Bool.{cases_Bool}
use Rattle.std.specs.FinMap.{get}
use Rattle.groups.specs.GroupSet.{has}
use Rattle.journal.specs.declared.step.Step.{Step}
use Rattle.journal.specs.declared.step.Step.TheVariants.{Open, Submit, Deliver, Take, Run, Settle, Collect, Close, Repeat}
use Rattle.placement.specs.Layout.{Layout}
use Rattle.resp.specs.Content.{Content}
use Rattle.skeen_core.proofs.Lawful.{None≢Some}
use Rattle.skeen_core.specs.Group.{GroupState, heard, next_clock, with_start, with_proposal, final_of, lift, lifted}
use Rattle.groups.specs.Order.{In}
use Rattle.groups.specs.Request.{same_id}
use Rattle.groups.specs.Stamp.{final}
use Rattle.skeen_core.specs.declared.packet.Body.TheVariants.{Start, Proposal}
use Rattle.skeen_core.specs.declared.packet.Packet.{Packet}
use Rattle.groups.specs.declared.request.RequestId.{RequestId}
use Rattle.groups.specs.declared.stamp.Stamp.{Stamp}
use Rattle.sessions.specs.Session.{Answer, Now, Go}
use Rattle.tasks.specs.Tasks.{Task, task_groups}
use Rattle.world.specs.Steps.{at, opening, Effect, next_id, clock_of, final_clock, final_clock_of, floor_of, multicast, answered}
use Rattle.world.specs.Steps.{submitted_to, submitted, remembered, answer_to, hears, Comes, Collects, Steps, Makes, Leads}
use Rattle.world.specs.World.{World, Request, Standing, Closed, Idle, Waiting, Answered, Proposals}
use Rattle.world_laws.specs.Good.{Asked, Addressed, Among, BodyGood, log_of, WorldGood, Bounded}
use Rattle.world_laws.proofs.Arrivals.{hearing, beginning, Arrival, LeftOut, Begins, Hears, arrival}
use Rattle.world_laws.proofs.Groups.{mid_start, mid_proposal, by_test}
use Rattle.world_laws.proofs.Lists.{in_place}
use Rattle.world_laws.proofs.Requests.{final_is_proposed}
use Rattle.world_laws.proofs.Worlds.{good_remembered, keeps, good_opening}
use Rattle.std.proofs.lemmas.Bool.{cond-true, cond-false}

-- ---- clocks

lift_at_most : (c m : ℕ) (o : Option Stamp) → c ≤ m → ((s : Stamp) → o ≡ Some s → s.clock ≤ m) → lift c o ≤ m
lift_at_most c m None low top = low
lift_at_most c m (Some s) low top = let it = top s refl in omega arith

-- the clock once a packet is added is no higher than all that was proposed
lifted_at_most : (asked : Asked) (proposed : Proposals) (grp : GroupState) (id : RequestId) (m : ℕ) → grp.clock ≤ m →
    Among (heard grp) proposed → ((i : RequestId) (g n : ℕ) → proposed i g ≡ Some n → n ≤ m) →
    ((gs : List ℕ) → get grp.started id ≡ Some gs → (g : ℕ) × (has gs g ≡ true)) → (lifted grp id).clock ≤ m
lifted_at_most asked proposed grp id m low heard_ all some =
    lift_at_most grp.clock m (final_of grp id (get grp.started id)) low (by_started (get grp.started id) refl)
  where
    by_started : (o : Option (List ℕ)) → get grp.started id ≡ o → (s : Stamp) → final_of grp id o ≡ Some s → s.clock ≤ m
    by_started None e s f = absurd (None≢Some s f)
    by_started (Some gs) e s f =
        let g = some gs e in
        all id s.group s.clock (heard_ id s.group s.clock (final_is_proposed (heard grp id) gs g.0 s g.1 f))

some_group : (t : Layout) (w : World) (id : RequestId) (gs : List ℕ) → WorldGood t w → Addressed w.asked id gs → (g : ℕ) × (has gs g ≡ true)
some_group t w id gs good named =
    let some = (good.requests.shaped id named.0 named.1).some in
    (some.0, subst (λ hs. has hs some.0 ≡ true) named.2 some.1)

proposed_at_most : (t : Layout) (w : World) (n : ℕ) → WorldGood t w → Bounded w n → (i : RequestId) (g m : ℕ) → w.proposed i g ≡ Some m →
    m ≤ n
proposed_at_most t w n good bounded i g m e = let low = (good.skeen.groups g).clock i m e in let high = bounded.clocks g in omega arith

-- the clock of a group that begins a request, before it delivers
beginning_clock : (t : Layout) (w : World) (n : ℕ) (p : Packet) (floor : ℕ) (groups : List ℕ) → In p w.packets → WorldGood t w →
    Bounded w n → p.body ≡ Start floor groups → w.proposed p.id p.to ≡ None → (beginning w p floor groups).clock ≤ suc n
beginning_clock t w n p floor groups there good bounded is none =
    let body : BodyGood w.asked w.proposed p.to p.id (Start floor groups) =
    subst (λ b. BodyGood w.asked w.proposed p.to p.id b) is (good.skeen.sent p there) in
    let mid = mid_start w.asked w.proposed p.to (w.group p.to) (log_of w p.to) p.id floor groups (good.skeen.groups p.to)
    (body.0.0, body.0.1, body.0.3) body.1 none in
    let low = bounded.clocks p.to in let floors = bounded.floors p.id body.0.0 body.0.1 in let at_floor = body.0.2 in
    let new : next_clock (w.group p.to) floor ≤ suc n = omega arith in
    lifted_at_most w.asked (hears w.proposed p.id p.to (next_clock (w.group p.to) floor))
    (with_start p.to (w.group p.to) p.id floor groups) p.id (suc n) new mid.heard
    (λ i g m e. by_test (same_id i p.id && g == p.to) (next_clock (w.group p.to) floor)
    (w.proposed i g) m (m ≤ suc n) e (λ test at_new. omega arith)
    (λ test old. let before = proposed_at_most t w n good bounded i g m old in omega arith))
    (λ gs e. some_group t w p.id gs good (mid.started p.id gs e))

-- and of one that hears a proposal
hearing_clock : (t : Layout) (w : World) (n : ℕ) (p : Packet) (from m : ℕ) → In p w.packets → WorldGood t w → Bounded w n →
    p.body ≡ Proposal from m → (hearing w p from m).clock ≤ n
hearing_clock t w n p from m there good bounded is =
    let body : BodyGood w.asked w.proposed p.to p.id (Proposal from m) =
    subst (λ b. BodyGood w.asked w.proposed p.to p.id b) is (good.skeen.sent p there) in
    let mid = mid_proposal w.asked w.proposed p.to (w.group p.to) (log_of w p.to) p.id from m (good.skeen.groups p.to) body.1 body.0
    (λ i e. (good.skeen.groups from).apart i p.id m e body.0) in
    lifted_at_most w.asked w.proposed (with_proposal (w.group p.to) p.id from m) p.id n (bounded.clocks p.to) mid.heard
    (proposed_at_most t w n good bounded) (λ gs e. some_group t w p.id gs good (mid.started p.id gs e))

-- ---- each step

-- what a step changes of these numbers, at most by one
abbrev Grown : World → World → Type 0
Grown old new = (n : ℕ) → Bounded old n → Bounded new (suc n)

same_grown : (old : World) → Grown old old
same_grown old n b = record {
  clocks = λ g. let low = b.clocks g in omega arith;
  floors = λ i q e. let low = b.floors i q e in omega arith;
  connections = let low = b.connections in omega arith;
  requests = λ c. let low = b.requests c in omega arith;
}

counts_one : (seq : ℕ → ℕ) (c d n : ℕ) → seq c ≤ n → seq d ≤ n → at seq c (suc (seq c)) d ≤ suc n
counts_one seq c d n a b = elim (cases_Bool (d == c)) [
  | inl e ↦ let now = cond-true (d == c) (suc (seq c)) (seq d) e in omega arith
  | inr e ↦ let now = cond-false (d == c) (suc (seq c)) (seq d) e in omega arith
]

answered_grown : (old : World) (c : ℕ) (reply : Content) → Grown old (answered old c reply)
answered_grown old c reply n b = record {
  clocks = λ g. let low = b.clocks g in omega arith;
  floors = λ i q e. let low = b.floors i q e in omega arith;
  connections = let low = b.connections in omega arith;
  requests = λ d. counts_one old.seq c d n (b.requests c) (b.requests d);
}

floor_at_most : (t : Layout) (w : World) (n c : ℕ) → WorldGood t w → Bounded w n → floor_of w c ≤ n
floor_at_most t w n c good b = by_last (w.last c)
  where
    by_final : (i : RequestId) (q : Request) (o : Option Stamp) → w.asked i ≡ Some q → final (w.proposed i) q.groups ≡ o → clock_of o ≤ n
    by_final i q None named e = omega arith
    by_final i q (Some s) named e =
        let some = (good.requests.shaped i q named).some in
        proposed_at_most t w n good b i s.group s.clock (final_is_proposed (w.proposed i) q.groups some.0 s some.1 e)

    by_asked : (i : RequestId) (o : Option Request) → w.asked i ≡ o → final_clock w.proposed i o ≤ n
    by_asked i None e = omega arith
    by_asked i (Some q) e = by_final i q (final (w.proposed i) q.groups) e refl

    by_last : (o : Option RequestId) → final_clock_of w o ≤ n
    by_last None = omega arith
    by_last (Some i) = by_asked i (w.asked i) refl

multicast_grown : (old : World) (c n : ℕ) (q : Request) → q.floor ≤ n → Bounded old n → Bounded (multicast old c q) (suc n)
multicast_grown old c n q low b = record {
  clocks = λ g. let low = b.clocks g in omega arith;
  floors = λ i r e. by_test (same_id i (next_id old c)) q (old.asked i) r (r.floor ≤ suc n) e
      (λ p same. let floors = ap (λ (x : Request). x.floor) same in omega arith)
      (λ p before. let low = b.floors i r before in omega arith);
  connections = let low = b.connections in omega arith;
  requests = λ d. counts_one old.seq c d n (b.requests c) (b.requests d);
}

submitted_to_grown : (t : Layout) (old : World) (c n : ℕ) (task : Task) (gs : List ℕ) → WorldGood t old → Bounded old n →
    Bounded (submitted_to old c task gs) (suc n)
submitted_to_grown t old c n task [] good b = answered_grown old c _ n b
submitted_to_grown t old c n task (g ∷ gs) good b =
    multicast_grown old c n (record { floor = floor_of old c; groups = g ∷ gs; task = task }) (floor_at_most t old n c good b) b

submitted_grown : (t : Layout) (old : World) (c n : ℕ) (r : Answer) → WorldGood t old → Bounded old n →
    Bounded (submitted t old c r) (suc n)
submitted_grown t old c n (Go task) good b = submitted_to_grown t old c n task (task_groups t task) good b
submitted_grown t old c n (Now reply) good b = answered_grown old c _ n b

-- one group has another state
clocks_at : (old : World) (to n : ℕ) (state : GroupState) → state.clock ≤ suc n → Bounded old n →
    (g : ℕ) → (at old.group to state g).clock ≤ suc n
clocks_at old to n state now b g = elim (g == to) as (λ x. (cond x state (old.group g)).clock ≤ suc n) [
  | true ↦ now
  | false ↦ let low = b.clocks g in omega arith
]

deliver_grown : (t : Layout) (old new : World) (k : ℕ) (effect : Effect) (n : ℕ) → Comes old k effect new → WorldGood t old →
    Bounded old n → Bounded new (suc n)
deliver_grown t old new k effect n step good b = by_arrival (arrival t old new k effect step good)
  where
    there : In step.packet old.packets
    there = in_place old.packets k step.packet step.there

    by_arrival : Arrival old k step.packet new → Bounded new (suc n)
    by_arrival (LeftOut told out same) =
        let more = same_grown old n b in
        subst (λ w. Bounded w (suc n)) (sym same)
        (record { clocks = more.clocks; floors = more.floors; connections = more.connections; requests = more.requests })
    by_arrival (Begins floor groups ds is none delivers reached same) =
        let more = same_grown old n b in
        subst (λ w. Bounded w (suc n)) (sym same) (record {
          clocks = clocks_at old step.packet.to n _ (beginning_clock t old n step.packet floor groups there good b is none) b;
          floors = more.floors;
          connections = more.connections;
          requests = more.requests;
        })
    by_arrival (Hears from m ds is delivers reached same) =
        let more = same_grown old n b in
        let low = hearing_clock t old n step.packet from m there good b is in
        subst (λ w. Bounded w (suc n)) (sym same) (record {
          clocks = clocks_at old step.packet.to n _ (omega arith) b;
          floors = more.floors;
          connections = more.connections;
          requests = more.requests;
        })

collect_grown : (old new : World) (c : ℕ) (s : Standing) (effect : Effect) (n : ℕ) → Collects s old c effect new → Bounded old n →
    Bounded new (suc n)
collect_grown old new c Closed effect n step b = absurd step
collect_grown old new c Idle effect n step b = subst (λ w. Bounded w (suc n)) (sym step.1) (same_grown old n b)
collect_grown old new c Waiting effect n step b = subst (λ w. Bounded w (suc n)) (sym step.1) (same_grown old n b)
collect_grown old new c (Answered o) effect n step b =
    let more = same_grown old n b in
    subst (λ w. Bounded w (suc n)) (sym step.1)
    (record { clocks = more.clocks; floors = more.floors; connections = more.connections; requests = more.requests })

pub bounded_step : (t : Layout) (old new : World) (step : Step) (effect : Effect) (n : ℕ) → Steps t old step effect new → WorldGood t old →
    Bounded old n → Bounded new (suc n)
bounded_step t old new Open effect n s good b =
    let more = same_grown old n b in
    subst (λ w. Bounded w (suc n)) (sym s.after)
    (record {
      clocks = more.clocks;
      floors = more.floors;
      connections = (let low = b.connections in omega arith);
      requests = more.requests;
    })
bounded_step t old new (Submit conn words) effect n s good b = subst (λ w. Bounded w (suc n)) (sym s.after)
    (submitted_grown t (remembered old conn.0 words) conn.0 n (answer_to old conn.0 words) (good_remembered t old conn.0 words s.idle good)
    (record { clocks = b.clocks; floors = b.floors; connections = b.connections; requests = b.requests }))
bounded_step t old new (Deliver k) effect n s good b = deliver_grown t old new k effect n s good b
bounded_step t old new Take effect n s good b =
    let more = same_grown old n b in
    subst (λ w. Bounded w (suc n)) (sym s.after)
    (record { clocks = more.clocks; floors = more.floors; connections = more.connections; requests = more.requests })
bounded_step t old new (Run starved) effect n s good b =
    let more = same_grown old n b in
    subst (λ w. Bounded w (suc n)) (sym s.after)
    (record { clocks = more.clocks; floors = more.floors; connections = more.connections; requests = more.requests })
bounded_step t old new Settle effect n s good b =
    let more = same_grown old n b in
    subst (λ w. Bounded w (suc n)) (sym s.after)
    (record { clocks = more.clocks; floors = more.floors; connections = more.connections; requests = more.requests })
bounded_step t old new (Collect conn) effect n s good b = collect_grown old new conn.0 (old.standing conn.0) effect n s b
bounded_step t old new (Close conn) effect n s good b =
    let more = same_grown old n b in
    subst (λ w. Bounded w (suc n)) (sym s.after)
    (record { clocks = more.clocks; floors = more.floors; connections = more.connections; requests = more.requests })
bounded_step t old new (Repeat k) effect n s good b =
    let more = same_grown old n b in
    subst (λ w. Bounded w (suc n)) (sym s.after)
    (record { clocks = more.clocks; floors = more.floors; connections = more.connections; requests = more.requests })

pub bounded_steps : (t : Layout) (old new : World) (steps : List Step) (effects : List Effect) (n : ℕ) → Makes t old steps effects new →
    WorldGood t old → Bounded old n → Bounded new (n + length steps)
bounded_steps t old new [] effects n made good b = subst (λ m. Bounded new m) (omega arith) (subst (λ w. Bounded w n) (sym made.1) b)
bounded_steps t old new (s ∷ ss) [] n made good b = absurd made
bounded_steps t old new (s ∷ ss) (e ∷ es) n made good b =
    let rest = bounded_steps t made.0 new ss es (suc n) made.2 (keeps t old made.0 s e made.1 good)
    (bounded_step t old made.0 s e n made.1 good b) in
    subst (λ m. Bounded new m) (omega arith) rest

pub bounded_world : (t : Layout) (steps : List Step) (w : World) → Leads t opening steps w → Bounded w (length steps)
bounded_world t steps w leads =
    let all = bounded_steps t opening w steps leads.0 0 leads.1 (good_opening t)
    (record {
      clocks = λ g. omega arith;
      floors = λ i q e. absurd (None≢Some q e);
      connections = omega arith;
      requests = λ c. omega arith;
    }) in
    subst (λ m. Bounded w m) (omega arith) all
