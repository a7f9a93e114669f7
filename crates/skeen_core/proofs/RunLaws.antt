-- The laws of one group over all lists of packets.
use Rattle.std.proofs.Common.{◌≡◌, ℕ, ◌≤◌, ◌↔◌, Bool, true, false, List, [], ◌∷◌, ◌++◌, inl, inr, Option, Some, None, refl, sym, ap, ◌∙◌}
use Rattle.std.proofs.Common.{subst, arith, append-nil, append_assoc}
use Rattle.std.proofs.lemmas.Bool.{both_ways}
use Rattle.std.specs.FinMap.{FinMap, get}
use Rattle.std.specs.Ordering.{nat_cmp}
use Rattle.groups.specs.Order.{In}
use Rattle.groups.specs.declared.request.RequestId.{RequestId}
use Rattle.skeen_core.specs.declared.packet.Packet.{Packet}
use Rattle.skeen_core.specs.declared.packet.Body.{Body}
use Rattle.skeen_core.specs.declared.packet.Body.TheVariants.{Start, Proposal}
use Rattle.skeen_core.specs.declared.packet.Delivered.{Delivered}
use Rattle.skeen_core.specs.Group.{GroupState, fresh, heard, is_up_to, is_past, reaching, Delivering, ReceivesStart, Agrees, ReceivesUnless, Receives, MayCome}
use Rattle.skeen_core.specs.Lawful.{Lawful}
use Rattle.skeen_core.specs.Runs.{Receipt, ReceivesInTurn, log, ClockNeverFalls, TellsAtMost, ClockIsAboveStamps, DeliveriesAscend}
use Rattle.skeen_core.specs.Runs.{DeliveredIsForgotten, HasReached, PastIsReached, RepeatsChangeNothing, RuleDetermines}
use Rattle.skeen_core.proofs.Lawful.{lawful_fresh}
use Rattle.skeen_core.proofs.Ahead.{Going, going_fresh, lawful_step, clock_step, tells_more, told_step, going_step, reached_step, forgotten_step}
use Rattle.skeen_core.proofs.Ahead.{again_step, determines_step}
use Rattle.skeen_core.proofs.Reaching.{past_reaching, none_past, reached-append, lawful_reaching, going_reaching}

-- ---- what a receipt is: nothing, or the group agrees, and has then reached what it delivered

pub data Received (me : ℕ) (old : GroupState) (id : RequestId) (body : Body) (sent : List Packet) (ds : List Delivered) (new : GroupState)
    : Type 0 where
  Past : is_past old id ≡ true → sent ≡ [] → ds ≡ [] → new ≡ old → Received me old id body sent ds new
  Heard : is_past old id ≡ false → (mid : GroupState) → Agrees me old id body sent ds mid → new ≡ reaching mid ds
      → Received me old id body sent ds new

pub received : (me : ℕ) (old : GroupState) (id : RequestId) (body : Body) (sent : List Packet) (ds : List Delivered) (new : GroupState)
    → Receives me old id body sent ds new → Received me old id body sent ds new
received me old id body sent ds new r = by_past (is_past old id) refl r
  where
    by_past : (b : Bool) → is_past old id ≡ b → ReceivesUnless b me old id body sent ds new → Received me old id body sent ds new
    by_past true e r = Past e r.0 r.1 r.2
    by_past false e r = Heard e r.0 r.1 r.2

-- and the other way round
pub heard_receives : (me : ℕ) (old : GroupState) (id : RequestId) (body : Body) (sent : List Packet) (ds : List Delivered)
    (mid : GroupState) → is_past old id ≡ false → Agrees me old id body sent ds mid → Receives me old id body sent ds (reaching mid ds)
heard_receives me old id body sent ds mid e r =
    subst (λ b. ReceivesUnless b me old id body sent ds (reaching mid ds)) (sym e) (mid, r, refl)

pub past_receives : (me : ℕ) (old : GroupState) (id : RequestId) (body : Body) → is_past old id ≡ true → Receives me old id body [] [] old
past_receives me old id body e = subst (λ b. ReceivesUnless b me old id body [] [] old) (sym e) (refl, refl, refl)

-- ---- how groups agree doesn't go by what they have reached

delivering_whatever : (me : ℕ) (mid : GroupState) (ds : List Delivered) (new : GroupState) (r : FinMap nat_cmp ℕ) → Delivering me mid ds new →
    Delivering me (record mid { reached = r }) ds (record new { reached = r })
delivering_whatever me mid ds new r it = record {
  delivers = record {
    ascending = it.delivers.ascending;
    only = λ d there. let may = it.delivers.only d there in record { started = may.started; stamp = may.stamp; below = may.below };
    all = λ d may. it.delivers.all d (record { started = may.started; stamp = may.stamp; below = may.below });
  };
  after = ap (λ (g : GroupState). record g { reached = r }) it.after;
}

pub agrees_whatever : (me : ℕ) (old : GroupState) (id : RequestId) (body : Body) (sent : List Packet) (ds : List Delivered)
    (new : GroupState) (r : FinMap nat_cmp ℕ) → Agrees me old id body sent ds new →
    Agrees me (record old { reached = r }) id body sent ds (record new { reached = r })
agrees_whatever me old id (Proposal from n) sent ds new r a = (a.0, delivering_whatever me _ ds new r a.1)
agrees_whatever me old id (Start floor groups) sent ds new r a = by_started (get old.started id) a
  where
    by_started : (o : Option (List ℕ)) → ReceivesStart o me old id floor groups sent ds new →
        ReceivesStart o me (record old { reached = r }) id floor groups sent ds (record new { reached = r })
    by_started (Some gs) a = (a.0, a.1, ap (λ (g : GroupState). record g { reached = r }) a.2)
    by_started None a = (a.0, delivering_whatever me _ ds new r a.1)

-- ---- over a run

lawful_receives : (me : ℕ) (old : GroupState) (p : Packet) (sent : List Packet) (ds : List Delivered) (new : GroupState) → Lawful me old
    → MayCome me old p → Receives me old p.id p.body sent ds new → Lawful me new
lawful_receives me old p sent ds new lawful may r = by_received (received me old p.id p.body sent ds new r)
  where
    by_received : Received me old p.id p.body sent ds new → Lawful me new
    by_received (Past e s d same) = subst (λ g. Lawful me g) (sym same) lawful
    by_received (Heard e mid a same) =
        subst (λ g. Lawful me g) (sym same) (lawful_reaching me mid ds (lawful_step me old p sent ds mid lawful may a))

lawful_in_turn : (me : ℕ) (old new : GroupState) (rs : List Receipt) → Lawful me old → ReceivesInTurn me old rs new → Lawful me new
lawful_in_turn me old new [] lawful receives = subst (λ g. Lawful me g) (sym receives) lawful
lawful_in_turn me old new (r ∷ rs) lawful receives =
    lawful_in_turn me receives.0 new rs (lawful_receives me old r.packet r.sent r.delivered receives.0 lawful receives.1 receives.2)
    receives.3

clock_receives : (me : ℕ) (old : GroupState) (id : RequestId) (body : Body) (sent : List Packet) (ds : List Delivered) (new : GroupState)
    → Receives me old id body sent ds new → old.clock ≤ new.clock
clock_receives me old id body sent ds new r = by_received (received me old id body sent ds new r)
  where
    by_received : Received me old id body sent ds new → old.clock ≤ new.clock
    by_received (Past e s d same) = let clocks = ap (λ (g : GroupState). g.clock) same in omega arith
    by_received (Heard e mid a same) =
        let clocks = ap (λ (g : GroupState). g.clock) same in let more = clock_step me old id body sent ds mid a in omega arith

pub clock_never_falls : ClockNeverFalls
clock_never_falls me old new [] receives = let clocks = ap (λ (g : GroupState). g.clock) receives in omega arith
clock_never_falls me old new (r ∷ rs) receives =
    let first = clock_receives me old r.packet.id r.packet.body r.sent r.delivered receives.0 receives.2 in
    let rest = clock_never_falls me receives.0 new rs receives.3 in
    omega arith

told_receives : (me : ℕ) (old : GroupState) (id : RequestId) (body : Body) (sent : List Packet) (ds : List Delivered) (new : GroupState)
    → Receives me old id body sent ds new → (p : Packet) → In p sent → TellsAtMost new.clock p.body
told_receives me old id body sent ds new r p there = by_received (received me old id body sent ds new r)
  where
    by_received : Received me old id body sent ds new → TellsAtMost new.clock p.body
    by_received (Past e none d same) = absurd (subst (λ l. In p l) none there)
    by_received (Heard e mid a same) =
        subst (λ (g : GroupState). TellsAtMost g.clock p.body) (sym same) (told_step me old id body sent ds mid a p there)

told_in_turn : (me : ℕ) (old new : GroupState) (rs : List Receipt) → ReceivesInTurn me old rs new → (r : Receipt) (p : Packet) → In r rs
    → In p r.sent → TellsAtMost new.clock p.body
told_in_turn me old new [] receives r p there here = absurd there
told_in_turn me old new (x ∷ xs) receives r p (inl same) here =
    tells_more _ new.clock p.body (told_receives me old x.packet.id x.packet.body x.sent x.delivered receives.0 receives.2 p
    (subst (λ (y : Receipt). In p y.sent) same here)) (clock_never_falls me receives.0 new xs receives.3)
told_in_turn me old new (x ∷ xs) receives r p (inr there) here = told_in_turn me receives.0 new xs receives.3 r p there here

pub going_receives : (me : ℕ) (old : GroupState) (p : Packet) (sent : List Packet) (before ds : List Delivered) (new : GroupState)
    → Going me old before → MayCome me old p → Receives me old p.id p.body sent ds new → Going me new (before ++ ds)
going_receives me old p sent before ds new going may r = by_received (received me old p.id p.body sent ds new r)
  where
    by_received : Received me old p.id p.body sent ds new → Going me new (before ++ ds)
    by_received (Past e s d same) =
        let nothing : before ++ ds ≡ before = ap (λ l. before ++ l) d ∙ append-nil before in
        subst (λ l. Going me new l) (sym nothing) (subst (λ g. Going me g before) (sym same) going)
    by_received (Heard e mid a same) = subst (λ g. Going me g (before ++ ds)) (sym same)
        (going_reaching me mid (before ++ ds) ds (going_step me old p sent before ds mid going may a))

going_in_turn : (me : ℕ) (old new : GroupState) (before : List Delivered) (rs : List Receipt) → Going me old before
    → ReceivesInTurn me old rs new → Going me new (before ++ log rs)
going_in_turn me old new before [] go receives =
    subst (λ l. Going me new l) (sym (append-nil before)) (subst (λ g. Going me g before) (sym receives) go)
going_in_turn me old new before (r ∷ rs) go receives =
    subst (λ l. Going me new l) (append_assoc before r.delivered (log rs))
    (going_in_turn me receives.0 new (before ++ r.delivered) rs
    (going_receives me old r.packet r.sent before r.delivered receives.0 go receives.1 receives.2) receives.3)

pub deliveries_ascend : DeliveriesAscend
deliveries_ascend me rs new receives = (going_in_turn me fresh new [] rs (going_fresh me) receives).ascending

pub clock_is_above_stamps : ClockIsAboveStamps
clock_is_above_stamps me rs new receives =
    let go = going_in_turn me fresh new [] rs (going_fresh me) receives in
    record {
      told = told_in_turn me fresh new rs receives;
      proposed = λ i n e. (go.lawful.sound.own i n e).0;
      settled = go.lawful.sound.tops;
      delivered = go.ahead.clock;
    }

-- ---- what is past

-- a group that has reached what it has delivered has still
pub reached_receives : (me : ℕ) (old : GroupState) (id : RequestId) (body : Body) (sent : List Packet) (before ds : List Delivered)
    (new : GroupState) → ((i : RequestId) → (is_past old i ≡ true) ↔ HasReached before i) → Receives me old id body sent ds new →
    (i : RequestId) → (is_past new i ≡ true) ↔ HasReached (before ++ ds) i
reached_receives me old id body sent before ds new reached r i = by_received (received me old id body sent ds new r)
  where
    by_received : Received me old id body sent ds new → (is_past new i ≡ true) ↔ HasReached (before ++ ds) i
    by_received (Past e s d same) =
        let nothing : before ++ ds ≡ before = ap (λ l. before ++ l) d ∙ append-nil before in
        subst (λ l. (is_past new i ≡ true) ↔ HasReached l i) (sym nothing)
        (subst (λ g. (is_past g i ≡ true) ↔ HasReached before i) (sym same) (reached i))
    by_received (Heard e mid a same) =
        let past = past_reaching mid ds i in
        let joined = reached-append before ds i in
        let kept : is_past mid i ≡ is_past old i = ap (λ r. is_up_to (get r i.conn.0) i.seq) (reached_step me old id body sent ds mid a) in (
          λ p. joined.1 (elim (past.0 (ap (λ (g : GroupState). is_past g i) (sym same) ∙ p)) [
            | inl was ↦ inl ((reached i).0 (sym kept ∙ was))
            | inr now ↦ inr now
          ]),
          λ it. ap (λ (g : GroupState). is_past g i) same ∙ past.1 (elim (joined.0 it) [
            | inl was ↦ inl (kept ∙ (reached i).1 was)
            | inr now ↦ inr now
          ]),
        )

reached_in_turn : (me : ℕ) (old new : GroupState) (before : List Delivered) (rs : List Receipt) →
    ((i : RequestId) → (is_past old i ≡ true) ↔ HasReached before i) → ReceivesInTurn me old rs new →
    (i : RequestId) → (is_past new i ≡ true) ↔ HasReached (before ++ log rs) i
reached_in_turn me old new before [] reached receives i =
    subst (λ l. (is_past new i ≡ true) ↔ HasReached l i) (sym (append-nil before))
    (subst (λ g. (is_past g i ≡ true) ↔ HasReached before i) (sym receives) (reached i))
reached_in_turn me old new before (r ∷ rs) reached receives i =
    subst (λ l. (is_past new i ≡ true) ↔ HasReached l i) (append_assoc before r.delivered (log rs))
    (reached_in_turn me receives.0 new (before ++ r.delivered) rs
    (reached_receives me old r.packet.id r.packet.body r.sent before r.delivered receives.0 reached receives.2) receives.3 i)

pub reached_fresh : (i : RequestId) → (is_past fresh i ≡ true) ↔ HasReached [] i
reached_fresh i = (λ p. absurd (both_ways _ (none_past i) p), λ it. absurd it.1)

pub past_is_reached : PastIsReached
past_is_reached me rs new receives i = reached_in_turn me fresh new [] rs reached_fresh receives i

-- ---- one packet

pub delivered_is_forgotten : DeliveredIsForgotten
delivered_is_forgotten me old new id body sent ds r d there = by_received (received me old id body sent ds new r)
  where
    by_received : Received me old id body sent ds new → (get new.started d.id ≡ None) × ((g : ℕ) → heard new d.id g ≡ None)
    by_received (Past e s none same) = absurd (subst (λ l. In d l) none there)
    by_received (Heard e mid a same) =
        subst (λ (g : GroupState). (get g.started d.id ≡ None) × ((h : ℕ) → heard g d.id h ≡ None)) (sym same)
        (forgotten_step me old mid id body sent ds a d there)

pub repeats_change_nothing : RepeatsChangeNothing
repeats_change_nothing me rs old new id body sent ds receives again r = by_received (received me old id body sent ds new r)
  where
    by_received : Received me old id body sent ds new → (sent ≡ []) × (ds ≡ []) × (new ≡ old)
    by_received (Past e s d same) = (s, d, same)
    by_received (Heard e mid a same) = elim again [
      | inl past ↦ absurd (both_ways _ e past)
      | inr heard_it ↦
          let it = again_step me old mid id body sent ds (lawful_in_turn me fresh old rs (lawful_fresh me) receives) heard_it a in
          (it.0, it.1, same ∙ ap (reaching mid) it.1 ∙ it.2)
    ]

pub rule_determines : RuleDetermines
rule_determines me old new new' id body sent sent' ds ds' r r' =
    by_received (received me old id body sent ds new r) (received me old id body sent' ds' new' r')
  where
    by_received : Received me old id body sent ds new → Received me old id body sent' ds' new' →
        (sent ≡ sent') × (ds ≡ ds') × (new ≡ new')
    by_received (Past e s d same) (Past e' s' d' same') = (s ∙ sym s', d ∙ sym d', same ∙ sym same')
    by_received (Past e s d same) (Heard e' mid a same') = absurd (both_ways _ e' e)
    by_received (Heard e mid a same) (Past e' s' d' same') = absurd (both_ways _ e e')
    by_received (Heard e mid a same) (Heard e' mid' a' same') =
        let both = determines_step me old mid mid' id body sent sent' ds ds' a a' in
        (both.0, both.1, same ∙ ap (λ g. reaching g ds) both.2 ∙ ap (reaching mid') both.1 ∙ sym same')
