-- Each such step uses up what was allowed: 1 for each packet under way, for each group that hasn't proposed one for each
-- packet that it will send, and 3 for a request that no layer has taken.
use Rattle.std.proofs.Common.{◌≡◌, ◌≢◌, ℕ, suc, ◌+◌, ◌*◌, ◌≤◌, ◌==◌, ◌&&◌, Bool, true, false, cond, List, [], ◌∷◌, ◌++◌, inl, inr}
use Rattle.std.proofs.Common.{Some, None, length, map, refl, sym, ap, ◌∙◌, subst, arith, append_assoc, length-append}
use Rattle.std.proofs.Common.{eqb-true, eq-eqb}
use Rattle.std.proofs.lemmas.Bool.{both_ways, or_cases, and_from}
use Rattle.std.proofs.Math.Nat.{suc-mul}
use Rattle.std.specs.List.{remove}
use Rattle.groups.specs.GroupSet.{has}
use Rattle.journal.specs.declared.step.Step.{Step}
use Rattle.journal.specs.declared.step.Step.TheVariants.{Open, Submit, Deliver, Take, Run, Settle, Collect, Close, Repeat}
use Rattle.placement.specs.Layout.{Layout}
use Rattle.groups.proofs.Ids.{same_id-true, eq-same_id}
use Rattle.skeen_core.proofs.Lawful.{None≢Some}
use Rattle.groups.proofs.Lists.{In-left, In-right, In-append}
use Rattle.skeen_core.specs.Group.{next_clock, tell, EachOnce}
use Rattle.groups.specs.Order.{In}
use Rattle.groups.specs.Request.{same_id}
use Rattle.skeen_core.specs.declared.packet.Body.TheVariants.{Start, Proposal}
use Rattle.skeen_core.specs.declared.packet.Delivered.{Delivered}
use Rattle.skeen_core.specs.declared.packet.Packet.{Packet}
use Rattle.groups.specs.declared.request.RequestId.{RequestId}
use Rattle.groups.specs.declared.skip_id.SkipId.{SkipId}
use Rattle.sessions.specs.Session.{Answer, Now, Go}
use Rattle.tasks.specs.Tasks.{Task, task_groups}
use Rattle.world.specs.Steps.{starts, opening, Effect, next_id, floor_of, multicast, submitted_to, submitted, remembered, answer_to, Comes, Repeats, Takes}
use Rattle.world.specs.Steps.{RunsLayer, Settles, Collects, Steps, Makes, hears}
use Rattle.world.specs.World.{World, Request, Standing, Closed, Idle, Waiting, Answered, Layer, NoneTaken, Taken, HasRun, Proposals}
use Rattle.world_laws.specs.Bound.{turn, turns, allowed_to, allowed_by, allowance, allowances_from, TurnsAreBounded}
use Rattle.world_laws.specs.Good.{Asked, BodyGood, all_delivered, all_taken, TakenGood, WorldGood}
use Rattle.world_laws.specs.Sessions.{sessions_after}
use Rattle.world_laws.proofs.Arrivals.{Arrival, LeftOut, Begins, Hears, arrival}
use Rattle.world_laws.proofs.Groups.{by_test}
use Rattle.world_laws.proofs.Layers.{taken_run, taken_once}
use Rattle.world_laws.proofs.Lists.{in_place, length_without}
use Rattle.world_laws.proofs.Sessions.{session_step}
use Rattle.world_laws.proofs.Worlds.{keeps, good_world, good_opening}

-- ---- what groups will send

-- so many packets the group sends when it proposes for the request
pub record Due : Type 0 where
  pub id : RequestId
  pub group : ℕ
  pub sends : ℕ

abbrev pub total : List Due → ℕ
total [] = 0
total (d ∷ ds) = d.sends + total ds

total-append : (xs ys : List Due) → total (xs ++ ys) ≡ total xs + total ys
total-append [] ys = omega arith
total-append (x ∷ xs) ys = let rest = total-append xs ys in omega arith

total-without : (front : List Due) (d : Due) (back : List Due) → total (front ++ d ∷ back) ≡ total (front ++ back) + d.sends
total-without front d back = omega (arith, total-append front (d ∷ back), total-append front back)

-- one for each of these groups
abbrev dues_of : RequestId → ℕ → List ℕ → List Due
dues_of id n [] = []
dues_of id n (g ∷ gs) = record { id = id; group = g; sends = n } ∷ dues_of id n gs

in_dues : (id : RequestId) (n : ℕ) (gs : List ℕ) (g : ℕ) → has gs g ≡ true → In (record { id = id; group = g; sends = n }) (dues_of id n gs)
in_dues id n [] g there = absurd (both_ways false refl there)
in_dues id n (h ∷ hs) g there = elim (or_cases (h == g) (has hs g) there) [
  | inl here ↦ inl (ap (λ k. record { id = id; group = k; sends = n }) (sym (eqb-true h g here)))
  | inr later ↦ inr (in_dues id n hs g later)
]

-- a Start to each group, and what each will send
starts_and_dues : (id : RequestId) (n : ℕ) (gs : List ℕ) → length gs + total (dues_of id n gs) ≡ length gs * suc n
starts_and_dues id n [] = omega arith
starts_and_dues id n (g ∷ gs) =
    let rest = starts_and_dues id n gs in
    let grown : suc (length gs) * suc n ≡ length gs * suc n + suc n = suc-mul (length gs) (suc n) in omega arith

length-starts : (id : RequestId) (q : Request) (gs : List ℕ) → length (starts id q gs) ≡ length gs
length-starts id q [] = refl
length-starts id q (g ∷ gs) = ap suc (length-starts id q gs)

-- one proposal for each other group at most
length-tell : (me : ℕ) (id : RequestId) (n : ℕ) (gs : List ℕ) → length (tell me id n gs) ≤ length gs
length-tell me id n [] = omega arith
length-tell me id n (g ∷ gs) =
    elim (g == me) as (λ b. length (cond b (tell me id n gs) (record { to = g; id = id; body = Proposal me n } ∷ tell me id n gs)) ≤ length
    (g ∷ gs)) [
      | true ↦ let rest = length-tell me id n gs in omega arith
      | false ↦ let rest = length-tell me id n gs in omega arith
    ]

-- and none for the group itself
length-tell-less : (me : ℕ) (id : RequestId) (n : ℕ) (gs : List ℕ) → has gs me ≡ true → length (tell me id n gs) + 1 ≤ length gs
length-tell-less me id n [] there = absurd (both_ways false refl there)
length-tell-less me id n (g ∷ gs) there =
    elim (g == me) as (λ b. (g == me) ≡ b →
    length (cond b (tell me id n gs) (record { to = g; id = id; body = Proposal me n } ∷ tell me id n gs)) + 1 ≤ length (g ∷ gs)) [
      | true ↦ λ e. let rest = length-tell me id n gs in omega arith
      | false ↦ λ e. elim (or_cases (g == me) (has gs me) there) [
        | inl here ↦ absurd (both_ways _ e here)
        | inr later ↦ let rest = length-tell-less me id n gs later in omega arith
      ]
    ] refl

split_in : {X : Type 0} (x : X) (ys : List X) → In x ys → (front back : List X) × (ys ≡ front ++ x ∷ back)
split_in x [] there = absurd there
split_in x (y ∷ ys) (inl same) = ([], ys, ap (λ z. z ∷ ys) (sym same))
split_in x (y ∷ ys) (inr there) = let rest = split_in x ys there in (y ∷ rest.0, rest.1, ap (λ l. y ∷ l) rest.2)

-- ---- a packet comes

-- a Proposal for each other group of the request
pub record IsDue (i : RequestId) (q : Request) (g : ℕ) (d : Due) : Type 0 where
  pub id : d.id ≡ i
  pub group : d.group ≡ g
  pub sends : suc d.sends ≡ length q.groups

-- each addressed group that hasn't proposed for a request has its due
abbrev pub Covers : Asked → Proposals → List Due → Type 0
Covers asked proposed dues = (i : RequestId) (q : Request) (g : ℕ) → asked i ≡ Some q → has q.groups g ≡ true → proposed i g ≡ None →
    (d : Due) × In d dues × IsDue i q g d

-- what is sent was due
record Pays (asked : Asked) (proposed : Proposals) (dues : List Due) (sent : List Packet) : Type 0 where
  pub rest : List Due
  pub covers : Covers asked proposed rest
  pub paid : length sent + total rest ≤ total dues

-- the group proposes, and its due is gone
pays_proposing : (asked : Asked) (proposed : Proposals) (dues : List Due) (to : ℕ) (id : RequestId) (n : ℕ) (q : Request) →
    asked id ≡ Some q → has q.groups to ≡ true → proposed id to ≡ None → Covers asked proposed dues →
    Pays asked (hears proposed id to n) dues (tell to id n q.groups)
pays_proposing asked proposed dues to id n q named member none covers = record {
  rest = parts.0 ++ parts.1;
  covers = λ i r g named_ member_ none_. by_proposed i r g (same_id i id && g == to) refl named_ member_ none_;
  paid =
      let sends = due.2.sends in
      let whole = ap total parts.2 in
      let without = total-without parts.0 due.0 parts.1 in
      let less = length-tell-less to id n q.groups member in
      omega arith;
}
  where
    due : (d : Due) × In d dues × IsDue id q to d
    due = covers id q to named member none

    parts : (front back : List Due) × (dues ≡ front ++ due.0 ∷ back)
    parts = split_in due.0 dues due.1

    by_proposed : (i : RequestId) (r : Request) (g : ℕ) (b : Bool) → (same_id i id && g == to) ≡ b → asked i ≡ Some r →
        has r.groups g ≡ true → cond b (Some n) (proposed i g) ≡ None →
        (d : Due) × In d (parts.0 ++ parts.1) × IsDue i r g d
    by_proposed i r g true e named_ member_ none_ = absurd (None≢Some n (sym none_))
    by_proposed i r g false e named_ member_ none_ =
        let old = covers i r g named_ member_ none_ in
        elim (In-append old.0 parts.0 (due.0 ∷ parts.1) (subst (λ l. In old.0 l) parts.2 old.1)) [
          | inl before ↦ (old.0, In-left old.0 parts.0 parts.1 before, old.2)
          | inr (inr after) ↦ (old.0, In-right old.0 parts.0 parts.1 after, old.2)
          | inr (inl same) ↦
              let at_id : i ≡ id = sym old.2.id ∙ ap (λ (d : Due). d.id) same ∙ due.2.id in
              let at_to : g ≡ to = sym old.2.group ∙ ap (λ (d : Due). d.group) same ∙ due.2.group in
              absurd (both_ways _ e (and_from (same_id i id) (g == to) (eq-same_id i id at_id) (eq-eqb g to at_to)))
        ]

-- ---- what is still to be done

abbrev layer_weight : Layer → ℕ
layer_weight NoneTaken = 0
layer_weight (Taken ds) = 2
layer_weight (HasRun es) = 1

-- the requests that were asked, and what is due for them
pub record Listed (asked : Asked) (proposed : Proposals) : Type 0 where
  pub ids : List RequestId
  pub named : (i : RequestId) (q : Request) → asked i ≡ Some q → In i ids
  pub dues : List Due
  pub covers : Covers asked proposed dues

-- m steps were made of the a that were allowed
pub record Paid (w : World) (m a : ℕ) : Type 0 where
  pub list : Listed w.asked w.proposed
  pub paid : m + length w.packets + total list.dues + layer_weight w.layer + 3 * length list.ids
      ≤ a + 3 * length (all_taken w.ended w.layer)

-- a packet that comes pays for itself
paid_deliver : (t : Layout) (old new : World) (k : ℕ) (effect : Effect) (m a : ℕ) → Comes old k effect new → WorldGood t old →
    Paid old m a → Paid new (m + 1) a
paid_deliver t old new k effect m a step good p = by_arrival (arrival t old new k effect step good)
  where
    packet : Packet
    packet = step.packet

    one : length (remove old.packets k) + 1 ≡ length old.packets
    one = length_without old.packets k step.packet step.there

    by_arrival : Arrival old k step.packet new → Paid new (m + 1) a
    by_arrival (LeftOut told out same) = subst (λ w. Paid w (m + 1) a) (sym same)
        (record { list = p.list; paid = let less = one in let paid = p.paid in omega arith })
    by_arrival (Hears from n ds is delivers reached same) = subst (λ w. Paid w (m + 1) a) (sym same)
        (record { list = p.list; paid = let less = one in let paid = p.paid in omega arith })
    by_arrival (Begins floor groups ds is none delivers reached same) =
        let body : BodyGood old.asked old.proposed packet.to packet.id (Start floor groups) =
        subst (λ b. BodyGood old.asked old.proposed packet.to packet.id b) is
        (good.skeen.sent packet (in_place old.packets k packet step.there)) in
        let pays : Pays old.asked (hears old.proposed packet.id packet.to (next_clock (old.group packet.to) floor)) p.list.dues
        (tell packet.to packet.id (next_clock (old.group packet.to) floor) groups) =
        subst (λ gs. Pays old.asked (hears old.proposed packet.id packet.to (next_clock (old.group packet.to) floor)) p.list.dues
        (tell packet.to packet.id (next_clock (old.group packet.to) floor) gs)) body.0.3
        (pays_proposing old.asked old.proposed p.list.dues packet.to packet.id (next_clock (old.group packet.to) floor) body.0.0 body.0.1
        (subst (λ gs. has gs packet.to ≡ true) (sym body.0.3) body.1) none p.list.covers) in
        let joined = length-append (remove old.packets k) (tell packet.to packet.id (next_clock (old.group packet.to) floor) groups) in
        let less = one in
        let sends = pays.paid in
        let paid = p.paid in
        subst (λ w. Paid w (m + 1) a) (sym same) (record {
          list = record { ids = p.list.ids; named = p.list.named; dues = pays.rest; covers = pays.covers };
          paid = omega arith;
        })

-- a packet that is repeated is one more
paid_repeat : (old new : World) (k : ℕ) (effect : Effect) (m a : ℕ) → Repeats old k effect new → Paid old m a → Paid new m (a + 1)
paid_repeat old new k effect m a step p =
    let one_more = length-append old.packets (step.packet ∷ []) in
    let paid = p.paid in
    subst (λ w. Paid w m (a + 1)) (sym step.after) (record { list = p.list; paid = omega arith })

paid_multicast : (w : World) (c : ℕ) (q : Request) (n m a : ℕ) → suc n ≡ length q.groups → Paid w m a →
    Paid (multicast w c q) m (a + (length q.groups * length q.groups + 3))
paid_multicast w c q n m a others p = record {
  list = record {
    ids = next_id w c ∷ p.list.ids;
    named = λ i r e. by_test (same_id i (next_id w c)) q (w.asked i) r (In i (next_id w c ∷ p.list.ids)) e
        (λ s new. inl (same_id-true i (next_id w c) s))
        (λ s old. inr (p.list.named i r old));
    dues = p.list.dues ++ dues_of (next_id w c) n q.groups;
    covers = λ i r g e member none. by_test (same_id i (next_id w c)) q (w.asked i) r
        ((d : Due) × In d (p.list.dues ++ dues_of (next_id w c) n q.groups) × IsDue i r g d) e
        (λ s new. (
          record { id = next_id w c; group = g; sends = n },
          In-right _ p.list.dues (dues_of (next_id w c) n q.groups)
              (in_dues (next_id w c) n q.groups g (subst (λ (x : Request). has x.groups g ≡ true) (sym new) member)),
          record {
            id = sym (same_id-true i (next_id w c) s);
            group = refl;
            sends = others ∙ ap (λ (x : Request). length x.groups) new;
          },
        ))
        (λ s old. let before = p.list.covers i r g old member none in (before.0, In-left before.0 p.list.dues _ before.1, before.2));
  };
  paid =
      let joined = length-append w.packets (starts (next_id w c) q q.groups) in
      let starts = length-starts (next_id w c) q q.groups in
      let all = total-append p.list.dues (dues_of (next_id w c) n q.groups) in
      let more = starts_and_dues (next_id w c) n q.groups in
      let square : length q.groups * suc n ≡ length q.groups * length q.groups = ap (λ k. length q.groups * k) others in
      let paid = p.paid in omega arith;
}

paid_submitted_to : (w : World) (c : ℕ) (task : Task) (gs : List ℕ) (m a : ℕ) → Paid w m a →
    Paid (submitted_to w c task gs) m (a + allowed_to gs)
paid_submitted_to w c task [] m a p =
    record { list = p.list; paid = let paid = p.paid in omega arith }
paid_submitted_to w c task (g ∷ gs) m a p =
    paid_multicast w c (record { floor = floor_of w c; groups = g ∷ gs; task = task }) (length gs) m a refl p

paid_submitted : (t : Layout) (w : World) (c : ℕ) (r : Answer) (m a : ℕ) → Paid w m a →
    Paid (submitted t w c r) m (a + allowed_by t r)
paid_submitted t w c (Go task) m a p = paid_submitted_to w c task (task_groups t task) m a p
paid_submitted t w c (Now reply) m a p = record { list = p.list; paid = let paid = p.paid in omega arith }

some_taken : (ds : List Delivered) → ds ≢ [] → 1 ≤ length ds
some_taken [] some = absurd (some refl)
some_taken (d ∷ ds) some = omega arith

paid_take : (old new : World) (effect : Effect) (m a : ℕ) → Takes old effect new → Paid old m a → Paid new (m + 1) a
paid_take old new effect m a step p =
    let none = ap layer_weight step.free in
    let some = some_taken step.layer step.some in
    let was = ap (λ l. length (all_taken old.ended l)) step.free in
    let paid = p.paid in
    let before = length-append (all_delivered old.ended) [] in
    let now = length-append (all_delivered old.ended) step.layer in
    subst (λ w. Paid w (m + 1) a) (sym step.after) (record { list = p.list; paid = omega arith })

paid_run : (old new : World) (starved : List SkipId) (effect : Effect) (m a : ℕ) → RunsLayer old starved effect new → Paid old m a →
    Paid new (m + 1) a
paid_run old new starved effect m a step p =
    let two = ap layer_weight step.there in
    let was = ap (λ l. length (all_taken old.ended l)) step.there in
    let same = ap (λ (ds : List Delivered). length ds)
    (taken_run old.asked starved old.contents old.ended step.outcomes step.layer step.in_turn) in
    let paid = p.paid in
    subst (λ w. Paid w (m + 1) a) (sym step.after) (record { list = p.list; paid = omega arith })

paid_settle : (old new : World) (effect : Effect) (m a : ℕ) → Settles old effect new → Paid old m a → Paid new (m + 1) a
paid_settle old new effect m a step p =
    let one = ap layer_weight step.there in
    let was = ap (λ l. length (all_taken old.ended l)) step.there in
    let paid = p.paid in
    subst (λ w. Paid w (m + 1) a) (sym step.after) (record { list = p.list; paid = omega arith })

paid_collects : (old new : World) (c : ℕ) (s : Standing) (effect : Effect) (m a : ℕ) → Collects s old c effect new → Paid old m a →
    Paid new m a
paid_collects old new c Closed effect m a step p = absurd step
paid_collects old new c Idle effect m a step p = subst (λ w. Paid w m a) (sym step.1) p
paid_collects old new c Waiting effect m a step p = subst (λ w. Paid w m a) (sym step.1) p
paid_collects old new c (Answered o) effect m a step p = subst (λ w. Paid w m a) (sym step.1)
    (record { list = p.list; paid = p.paid })

more_by : (w : World) (m n a b : ℕ) → m ≡ n → a ≡ b → Paid w m a → Paid w n b
more_by w m n a b e d p = subst (λ k. Paid w k b) e (subst (λ k. Paid w m k) d p)

paid_step : (t : Layout) (old new : World) (step : Step) (effect : Effect) (m a : ℕ) → Steps t old step effect new → WorldGood t old →
    Paid old m a → Paid new (m + turn step) (a + allowance t old.session step)
paid_step t old new Open effect m a s good p = subst (λ w. Paid w (m + 0) (a + 0)) (sym s.after)
    (more_by _ m (m + 0) a (a + 0) (omega arith) (omega arith) (record { list = p.list; paid = p.paid }))
paid_step t old new (Submit conn words) effect m a s good p =
    subst (λ w. Paid w (m + 0) (a + allowed_by t (answer_to old conn.0 words))) (sym s.after)
    (more_by _ m (m + 0) _ _ (omega arith) refl
    (paid_submitted t (remembered old conn.0 words) conn.0 (answer_to old conn.0 words) m a (record { list = p.list; paid = p.paid })))
paid_step t old new (Deliver k) effect m a s good p = more_by new (m + 1) (m + 1) a (a + 0) refl (omega arith)
    (paid_deliver t old new k effect m a s good p)
paid_step t old new Take effect m a s good p = more_by new (m + 1) (m + 1) a (a + 0) refl (omega arith) (paid_take old new effect m a s p)
paid_step t old new (Run starved) effect m a s good p = more_by new (m + 1) (m + 1) a (a + 0) refl (omega arith)
    (paid_run old new starved effect m a s p)
paid_step t old new Settle effect m a s good p = more_by new (m + 1) (m + 1) a (a + 0) refl (omega arith)
    (paid_settle old new effect m a s p)
paid_step t old new (Collect conn) effect m a s good p = more_by new m (m + 0) a (a + 0) (omega arith) (omega arith)
    (paid_collects old new conn.0 (old.standing conn.0) effect m a s p)
paid_step t old new (Close conn) effect m a s good p = subst (λ w. Paid w (m + 0) (a + 0)) (sym s.after)
    (more_by _ m (m + 0) a (a + 0) (omega arith) (omega arith) (record { list = p.list; paid = p.paid }))
paid_step t old new (Repeat k) effect m a s good p = more_by new m (m + 0) (a + 1) (a + 1) (omega arith) refl
    (paid_repeat old new k effect m a s p)

paid_steps : (t : Layout) (old new : World) (steps : List Step) (effects : List Effect) (m a : ℕ) → Makes t old steps effects new →
    WorldGood t old → Paid old m a → Paid new (m + turns steps) (a + allowances_from t old.session steps)
paid_steps t old new [] effects m a made good p = subst (λ w. Paid w (m + 0) (a + 0)) (sym made.1)
    (more_by old m (m + 0) a (a + 0) (omega arith) (omega arith) p)
paid_steps t old new (s ∷ ss) [] m a made good p = absurd made
paid_steps t old new (s ∷ ss) (e ∷ es) m a made good p =
    let same : allowances_from t made.0.session ss ≡ allowances_from t (sessions_after old.session s) ss =
    ap (λ x. allowances_from t x ss) (session_step t old made.0 s e made.1) in
    more_by new _ _ _ _ (omega arith) (omega arith)
    (paid_steps t made.0 new ss es (m + turn s) (a + allowance t old.session s) made.2 (keeps t old made.0 s e made.1 good)
    (paid_step t old made.0 s e m a made.1 good p))

-- ---- no more was taken than submitted

-- a list of different ids is no longer than one that has them all
once_fits : (xs ys : List RequestId) → EachOnce xs → ((i : RequestId) → In i xs → In i ys) → length xs ≤ length ys
once_fits [] ys once within = omega arith
once_fits (x ∷ xs) ys once within =
    let parts = split_in x ys (within x (inl refl)) in
    let rest = once_fits xs (parts.0 ++ parts.1) once.1
    (λ i there. elim (In-append i parts.0 (x ∷ parts.1) (subst (λ l. In i l) parts.2 (within i (inr there)))) [
      | inl before ↦ In-left i parts.0 parts.1 before
      | inr (inl same) ↦ absurd (once.0 (subst (λ j. In j xs) same there))
      | inr (inr after) ↦ In-right i parts.0 parts.1 after
    ]) in
    let whole = ap (λ (l : List RequestId). length l) parts.2 in
    omega (arith, length-append parts.0 (x ∷ parts.1), length-append parts.0 parts.1)

in_map : (ds : List Delivered) (i : RequestId) → In i (map (λ d. d.id) ds) → (d : Delivered) × In d ds × (i ≡ d.id)
in_map [] i there = absurd there
in_map (d ∷ ds) i (inl same) = (d, inl refl, same)
in_map (d ∷ ds) i (inr there) = let rest = in_map ds i there in (rest.0, inr rest.1, rest.2)

once_map : (ds : List Delivered) →
    ((d e : Delivered) (before after : List Delivered) → ds ≡ before ++ d ∷ after → In e after → d.id ≡ e.id → ⊥) →
    EachOnce (map (λ d. d.id) ds)
once_map [] apart = tt
once_map (d ∷ ds) apart = (
  λ there. let e = in_map ds d.id there in apart d e.0 [] ds refl e.1 e.2,
  once_map ds (λ e f before after split there same. apart e f (d ∷ before) after (ap (λ l. d ∷ l) split) there same),
)

length-ids : (ds : List Delivered) → length (map (λ d. d.id) ds) ≡ length ds
length-ids [] = refl
length-ids (d ∷ ds) = ap suc (length-ids ds)

taken_at_most : (t : Layout) (w : World) (ids : List RequestId) → WorldGood t w →
    ((i : RequestId) (q : Request) → w.asked i ≡ Some q → In i ids) → length (all_taken w.ended w.layer) ≤ length ids
taken_at_most t w ids good asked =
    let once = once_map (all_taken w.ended w.layer) (λ d e before after split there same.
    let whole = split ∙ sym (append_assoc before (d ∷ []) after) in
    taken_once t w.asked w.proposed w.gone w.seq w.last (before ++ d ∷ []) after good.requests
    (subst (λ l. TakenGood w.asked w.proposed w.gone l) whole good.taken) d e
    (In-right d before (d ∷ []) (inl refl)) there same) in
    let fits = once_fits (map (λ d. d.id) (all_taken w.ended w.layer)) ids once (λ i there.
    let d = in_map (all_taken w.ended w.layer) i there in
    let known = good.taken.known d.0 d.1 in
    subst (λ j. In j ids) (sym d.2) (asked d.0.id known.named.0 known.named.1)) in
    omega (arith, length-ids (all_taken w.ended w.layer))

pub turns_are_bounded : TurnsAreBounded
turns_are_bounded t steps w leads =
    let p = paid_steps t opening w steps leads.0 0 0 leads.1 (good_opening t)
    (record {
      list = record {
        ids = [];
        named = λ i q e. absurd (None≢Some q e);
        dues = [];
        covers = λ i q g e member none. absurd (None≢Some q e);
      };
      paid = omega arith;
    }) in
    let fits = taken_at_most t w p.list.ids (good_world t steps w leads) p.list.named in
    let paid = p.paid in
    omega arith
