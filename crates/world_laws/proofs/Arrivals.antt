-- What comes of a packet: its group leaves it out, begins its request, or hears a proposal.
use Rattle.std.proofs.Common.{◌≡◌, ℕ, true, false, List, [], ◌++◌, inl, inr, Option, Some, None, IsSome, slice_get, refl, sym}
use Rattle.std.proofs.Common.{ap, ◌∙◌, subst, arith, append-nil}
use Rattle.std.proofs.lemmas.Bool.{both_ways, cond-true, cond-false}
use Rattle.std.specs.FinMap.{get}
use Rattle.std.specs.List.{remove}
use Rattle.groups.proofs.Stamps.{final_above}
use Rattle.groups.specs.declared.request.RequestId.{RequestId}
use Rattle.placement.specs.Layout.{Layout}
use Rattle.skeen_core.proofs.Lawful.{some_is}
use Rattle.skeen_core.proofs.RunLaws.{Received, Past, Heard, received as as_received, reached_receives}
use Rattle.skeen_core.specs.Group.{GroupState, heard, is_past, next_clock, with_start, with_proposal, lifted, Delivers, Delivering}
use Rattle.skeen_core.specs.Group.{reaching, tell, ReceivesStart, Agrees, Receives}
use Rattle.skeen_core.specs.declared.packet.Body.{Body}
use Rattle.skeen_core.specs.declared.packet.Body.TheVariants.{Start, Proposal}
use Rattle.skeen_core.specs.declared.packet.Delivered.{Delivered}
use Rattle.skeen_core.specs.declared.packet.Packet.{Packet}
use Rattle.world.specs.Steps.{at, Effect, hears, with_own, now_proposed, received, Comes}
use Rattle.world.specs.World.{World, Proposals}
use Rattle.world_laws.specs.Good.{Among, IsOut, log_of, WorldGood}
use Rattle.world_laws.proofs.Groups.{having_delivered, Reached}
use Rattle.world_laws.proofs.Lists.{in_place}
use Rattle.world_laws.proofs.Packets.{body_addressed}
use Rattle.world_laws.proofs.Values.{at_same}

-- ---- who has proposed

-- who has proposed has still proposed
pub some_among : (f g : Proposals) (i : RequestId) (h : ℕ) → Among f g → IsSome (f i h) → IsSome (g i h)
some_among f g i h among there = by_proposed (f i h) refl there
  where
    by_proposed : (o : Option ℕ) → f i h ≡ o → IsSome o → IsSome (g i h)
    by_proposed None e there = absurd (both_ways false refl there)
    by_proposed (Some n) e there = some_is (g i h) n (among i h n e)

module _ (t : Layout) (w : World) (good : WorldGood t w) (g : ℕ) (id : RequestId) where
  -- a group that has delivered a request has proposed for it
  out_proposed : IsOut (log_of w g) id → IsSome (w.proposed id g)
  out_proposed out =
      let group = good.skeen.groups g in
      let own = final_above (w.proposed out.0.id) out.0.groups out.0.stamp g (group.known out.0 out.1).stamp (group.member out.0 out.1) in
      some_is (w.proposed id g) own.clock (ap (λ i. w.proposed i g) (sym out.2) ∙ own.heard)

  -- so has one that has started it
  started_proposed : (gs : List ℕ) → get (w.group g).started id ≡ Some gs → IsSome (w.proposed id g)
  started_proposed gs started =
      let group = good.skeen.groups g in
      some_among (heard (w.group g)) w.proposed id g group.heard (group.going.lawful.sound.started id gs started).0

  -- and no other one
  not_proposed : is_past (w.group g) id ≡ false → get (w.group g).started id ≡ None → w.proposed id g ≡ None
  not_proposed fresh absent = by_proposed (w.proposed id g) refl
    where
      by_proposed : (o : Option ℕ) → w.proposed id g ≡ o → o ≡ None
      by_proposed None e = refl
      by_proposed (Some n) e = elim ((good.skeen.groups g).begun id n e) [
        | inl there ↦ absurd (both_ways false refl (subst (λ o. IsSome o) absent there))
        | inr out ↦
            let seqs = ap (λ (i : RequestId). i.seq) out.2 in
            let past = ((good.skeen.groups g).past id).1 (out.0, out.1, ap (λ (i : RequestId). i.conn.0) out.2, omega arith) in
            absurd (both_ways _ fresh past)
      ]

-- ---- the world afterwards

-- the packet is gone, and nothing else has changed
abbrev pub left_out : World → ℕ → World
left_out w k = record w { packets = remove w.packets k }

-- the packet is gone, and its group has delivered these from this state
abbrev pub delivered_by : World → ℕ → Packet → GroupState → List Delivered → World
delivered_by w k p mid ds = record w {
  packets = remove w.packets k;
  group = at w.group p.to (having_delivered mid ds);
  queue = at w.queue p.to (w.queue p.to ++ ds);
}

-- the packet's group once it has heard the proposal, before it delivers
abbrev pub hearing : World → Packet → ℕ → ℕ → GroupState
hearing w p from n = lifted (with_proposal (w.group p.to) p.id from n) p.id

-- and once it has begun the request
abbrev pub beginning : World → Packet → ℕ → List ℕ → GroupState
beginning w p floor groups = lifted (with_start p.to (w.group p.to) p.id floor groups) p.id

-- the packet is gone, and its group has begun the request, told its proposal, and delivered these
abbrev pub begun_by : World → ℕ → Packet → ℕ → List ℕ → List Delivered → World
begun_by w k p floor groups ds = record w {
  packets = remove w.packets k ++ tell p.to p.id (next_clock (w.group p.to) floor) groups;
  group = at w.group p.to (having_delivered (beginning w p floor groups) ds);
  proposed = hears w.proposed p.id p.to (next_clock (w.group p.to) floor);
  queue = at w.queue p.to (w.queue p.to ++ ds);
}

-- A packet that is left out came before: its group has proposed for the request, and has delivered it if the packet is a
-- proposal.
pub data Arrival (w : World) (k : ℕ) (p : Packet) (new : World) : Type 0 where
  LeftOut : IsSome (w.proposed p.id p.to) → ((from n : ℕ) → p.body ≡ Proposal from n → IsOut (log_of w p.to) p.id) → new ≡ left_out w k
      → Arrival w k p new
  Begins : (floor : ℕ) (groups : List ℕ) (ds : List Delivered) → p.body ≡ Start floor groups → w.proposed p.id p.to ≡ None
      → Delivers p.to (beginning w p floor groups) ds
      → Reached (having_delivered (beginning w p floor groups) ds) (log_of w p.to ++ ds)
      → new ≡ begun_by w k p floor groups ds → Arrival w k p new
  Hears : (from n : ℕ) (ds : List Delivered) → p.body ≡ Proposal from n → Delivers p.to (hearing w p from n) ds
      → Reached (having_delivered (hearing w p from n) ds) (log_of w p.to ++ ds)
      → new ≡ delivered_by w k p (hearing w p from n) ds → Arrival w k p new

pub start_is_no_proposal : (floor : ℕ) (groups : List ℕ) (from n : ℕ) → Start floor groups ≡ Proposal from n → ⊥
start_is_no_proposal floor groups from n e = cc

-- ---- each packet arrives so

now_past : (proposed : Proposals) (me : ℕ) (grp : GroupState) (id : RequestId) (body : Body) → is_past grp id ≡ true →
    now_proposed proposed me grp id body ≡ proposed
now_past proposed me grp id (Start floor groups) past = cond-true _ proposed _ past
now_past proposed me grp id (Proposal from n) past = refl

now_heard : (proposed : Proposals) (me : ℕ) (grp : GroupState) (id : RequestId) (floor : ℕ) (groups : List ℕ) (o : Option (List ℕ)) →
    is_past grp id ≡ false → get grp.started id ≡ o →
    now_proposed proposed me grp id (Start floor groups) ≡ with_own o proposed id me (next_clock grp floor)
now_heard proposed me grp id floor groups o fresh started =
    cond-false _ proposed _ fresh ∙ ap (λ s. with_own s proposed id me (next_clock grp floor)) started

module _ (t : Layout) (w : World) (good : WorldGood t w) (k : ℕ) (p : Packet) (sent : List Packet) (ds : List Delivered)
    (state : GroupState) (there : slice_get w.packets k ≡ Some p) (receives : Receives p.to (w.group p.to) p.id p.body sent ds state) where
  nothing_changes : now_proposed w.proposed p.to (w.group p.to) p.id p.body ≡ w.proposed → sent ≡ [] → ds ≡ [] → state ≡ w.group p.to →
      received w k p sent ds state ≡ left_out w k
  nothing_changes now none nothing same =
      let packets : remove w.packets k ++ sent ≡ remove w.packets k =
      ap (λ l. remove w.packets k ++ l) none ∙ append-nil (remove w.packets k) in
      let group : at w.group p.to state ≡ w.group = at_same w.group p.to state same in
      let queue : at w.queue p.to (w.queue p.to ++ ds) ≡ w.queue =
      at_same w.queue p.to (w.queue p.to ++ ds) (ap (λ l. w.queue p.to ++ l) nothing ∙ append-nil (w.queue p.to)) in
      λ i. record w { packets = packets i; group = group i; proposed = now i; queue = queue i }

  -- the group has reached what it has delivered now
  reached : (mid grp : GroupState) → state ≡ reaching mid ds → Delivering p.to grp ds mid →
      (state ≡ having_delivered grp ds) × Reached (having_delivered grp ds) (log_of w p.to ++ ds)
  reached mid grp same delivering =
      let after : state ≡ having_delivered grp ds = same ∙ ap (λ s. reaching s ds) delivering.after in (
        after,
        subst (λ s. Reached s (log_of w p.to ++ ds)) after (reached_receives p.to (w.group p.to) p.id p.body sent (log_of w p.to) ds state
            (good.skeen.groups p.to).past receives),
      )

  start_arrives : (mid : GroupState) (floor : ℕ) (groups : List ℕ) → p.body ≡ Start floor groups → is_past (w.group p.to) p.id ≡ false →
      state ≡ reaching mid ds → (o : Option (List ℕ)) → get (w.group p.to).started p.id ≡ o →
      ReceivesStart o p.to (w.group p.to) p.id floor groups sent ds mid → Arrival w k p (received w k p sent ds state)
  start_arrives mid floor groups is fresh same (Some gs) started r =
      let now = ap (now_proposed w.proposed p.to (w.group p.to) p.id) is
      ∙ now_heard w.proposed p.to (w.group p.to) p.id floor groups (Some gs) fresh started in
      LeftOut (started_proposed t w good p.to p.id gs started)
      (λ from n is'. absurd (start_is_no_proposal floor groups from n (sym is ∙ is')))
      (nothing_changes now r.0 r.1 (same ∙ ap (λ l. reaching mid l) r.1 ∙ r.2))
  start_arrives mid floor groups is fresh same None started r =
      let now = ap (now_proposed w.proposed p.to (w.group p.to) p.id) is
      ∙ now_heard w.proposed p.to (w.group p.to) p.id floor groups None fresh started in
      let it = reached mid (beginning w p floor groups) same r.1 in
      Begins floor groups ds is (not_proposed t w good p.to p.id fresh started) r.1.delivers it.1 (λ i. record w {
        packets = remove w.packets k ++ r.0 i;
        group = at w.group p.to (it.0 i);
        proposed = now i;
        queue = at w.queue p.to (w.queue p.to ++ ds);
      })

  body_arrives : (mid : GroupState) → is_past (w.group p.to) p.id ≡ false → state ≡ reaching mid ds → (body : Body) → p.body ≡ body →
      Agrees p.to (w.group p.to) p.id body sent ds mid → Arrival w k p (received w k p sent ds state)
  body_arrives mid fresh same (Start floor groups) is r =
      start_arrives mid floor groups is fresh same (get (w.group p.to).started p.id) refl r
  body_arrives mid fresh same (Proposal from n) is r =
      let now = ap (now_proposed w.proposed p.to (w.group p.to) p.id) is in
      let it = reached mid (hearing w p from n) same r.1 in
      let packets : remove w.packets k ++ sent ≡ remove w.packets k =
      ap (λ l. remove w.packets k ++ l) r.0 ∙ append-nil (remove w.packets k) in
      Hears from n ds is r.1.delivers it.1 (λ i. record w {
        packets = packets i;
        group = at w.group p.to (it.0 i);
        proposed = now i;
        queue = at w.queue p.to (w.queue p.to ++ ds);
      })

  packet_arrives : Received p.to (w.group p.to) p.id p.body sent ds state → Arrival w k p (received w k p sent ds state)
  packet_arrives (Past past none nothing same) =
      let named = body_addressed w.asked w.proposed p.to p.id p.body (good.skeen.sent p (in_place w.packets k p there)) in
      let out = good.past p.id named.0 p.to named.1 named.2 past in
      LeftOut (out_proposed t w good p.to p.id out) (λ from n is. out)
      (nothing_changes (now_past w.proposed p.to (w.group p.to) p.id p.body past) none nothing same)
  packet_arrives (Heard fresh mid agrees same) = body_arrives mid fresh same p.body refl agrees

pub arrival : (t : Layout) (w new : World) (k : ℕ) (effect : Effect) (step : Comes w k effect new) → WorldGood t w →
    Arrival w k step.packet new
arrival t w new k effect step good = subst (λ v. Arrival w k step.packet v) (sym step.after)
    (packet_arrives t w good k step.packet step.sent step.delivered step.state step.there step.receives
    (as_received step.packet.to (w.group step.packet.to) step.packet.id step.packet.body step.sent step.delivered step.state step.receives))
