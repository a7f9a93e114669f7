-- A packet comes to its group: what is known of packets, proposals and groups is kept.
use Rattle.std.proofs.Common.{◌≡◌, ℕ, ◌<◌, ◌==◌, ◌&&◌, true, false, cond, List, [], ◌∷◌, ◌++◌, inl, inr, Some, None, IsSome, slice_get}
use Rattle.std.proofs.Common.{refl, sym, ap, ◌∙◌, subst, arith, eqb-true, eq-eqb, append_assoc}
use Rattle.std.proofs.lemmas.Bool.{and_parts, and_from, and_right, cond-true, cond-false}
use Rattle.std.specs.List.{remove}
use Rattle.groups.specs.GroupSet.{has}
use Rattle.groups.proofs.Ids.{same_id-true, same_id-refl}
use Rattle.groups.proofs.Lists.{In-left, In-append, In-end}
use Rattle.groups.specs.Order.{In}
use Rattle.groups.specs.Request.{same_id}
use Rattle.groups.specs.declared.request.RequestId.{RequestId}
use Rattle.skeen_core.proofs.Lawful.{some_is}
use Rattle.skeen_core.specs.Group.{GroupState, next_clock, Delivers, tell}
use Rattle.skeen_core.specs.declared.packet.Body.TheVariants.{Start, Proposal}
use Rattle.skeen_core.specs.declared.packet.Delivered.{Delivered}
use Rattle.skeen_core.specs.declared.packet.Packet.{Packet}
use Rattle.world.specs.Steps.{at, hears}
use Rattle.world.specs.World.{World, Request, Proposals}
use Rattle.world_laws.specs.Good.{Among, GroupGood, BodyGood, log_of, start_to, SkeenGood}
use Rattle.world_laws.proofs.Arrivals.{some_among, left_out, delivered_by, hearing, beginning, begun_by, Arrival, LeftOut, Begins, Hears}
use Rattle.world_laws.proofs.Arrivals.{start_is_no_proposal}
use Rattle.world_laws.proofs.Groups.{group_grows, mid_start, mid_proposal, having_delivered, Reached, delivers_good, by_test, among_hears}
use Rattle.world_laws.proofs.Lists.{in_place, was_in, still_in}
use Rattle.world_laws.proofs.Packets.{body_more, told_good}

abbrev pub SkeenOf : World → Type 0
SkeenOf w = SkeenGood w.asked w.proposed w.packets w.group (log_of w)

-- ---- the group that gets it, and the others

groups_at : (w : World) (proposed' : Proposals) (to : ℕ) (state : GroupState) (ds : List Delivered) →
    Among w.proposed proposed' → ((i : RequestId) (g n : ℕ) → (g == to) ≡ false → proposed' i g ≡ Some n → w.proposed i g ≡ Some n) →
    ((g : ℕ) → GroupGood w.asked w.proposed g (w.group g) (log_of w g)) → GroupGood w.asked proposed' to state (log_of w to ++ ds) →
    (g : ℕ) → GroupGood w.asked proposed' g (at w.group to state g) (w.gone g ++ at w.queue to (w.queue to ++ ds) g)
groups_at w proposed' to state ds among others good mine g =
    elim (g == to) as (λ b. (g == to) ≡ b → GroupGood w.asked proposed' g (cond b state (w.group g))
    (w.gone g ++ cond b (w.queue to ++ ds) (w.queue g))) [
      | true ↦ λ e. subst (λ h. GroupGood w.asked proposed' h state (w.gone h ++ (w.queue to ++ ds))) (sym (eqb-true g to e))
          (subst (λ l. GroupGood w.asked proposed' to state l) (append_assoc (w.gone to) (w.queue to) ds) mine)
      | false ↦ λ e. group_grows w.asked w.asked w.proposed proposed' g (w.group g) (log_of w g)
          (λ i q d. d) among (λ i n d. others i g n e d) (good g)
    ] refl

-- ---- it is left out

skeen_left_out : (w : World) (k : ℕ) (p : Packet) → slice_get w.packets k ≡ Some p → SkeenOf w → IsSome (w.proposed p.id p.to) →
    SkeenOf (left_out w k)
skeen_left_out w k p there good told = record {
  sent = λ x here. good.sent x (was_in w.packets k x here);
  coming = λ i q g named member. elim (good.coming i q g named member) [
    | inr told_ ↦ inr told_
    | inl is_sent ↦ elim (still_in w.packets k p there (start_to g i q) is_sent) [
      | inr still ↦ inl still
      | inl same ↦ inr (subst (λ (x : Packet). IsSome (w.proposed x.id x.to)) (sym same) told)
    ]
  ];
  made = good.made;
  groups = good.groups;
}

-- ---- it begins its request

skeen_begins : (w : World) (k : ℕ) (p : Packet) (floor : ℕ) (groups : List ℕ) (ds : List Delivered) → slice_get w.packets k ≡ Some p →
    SkeenOf w → p.body ≡ Start floor groups → w.proposed p.id p.to ≡ None → Delivers p.to (beginning w p floor groups) ds →
    Reached (having_delivered (beginning w p floor groups) ds) (log_of w p.to ++ ds) → SkeenOf (begun_by w k p floor groups ds)
skeen_begins w k p floor groups ds there good is none delivers reached = record {
  sent = λ x here. elim (In-append x (remove w.packets k) (tell p.to p.id new groups) here) [
    | inl before ↦ body_more w.asked w.asked w.proposed proposed' x.to x.id x.body (λ i q e. e) among
        (good.sent x (was_in w.packets k x before))
    | inr now ↦ told_good w.asked proposed' p.to p.id new body.0.0 groups body.0.1 told
        (λ g e. subst (λ gs. has gs g ≡ true) (sym body.0.3) e) x now
  ];
  coming = λ i q g named member. elim (good.coming i q g named member) [
    | inr told_ ↦ inr (some_among w.proposed proposed' i g among told_)
    | inl is_sent ↦ elim (still_in w.packets k p there (start_to g i q) is_sent) [
      | inr still ↦ inl (In-left (start_to g i q) (remove w.packets k) (tell p.to p.id new groups) still)
      | inl same ↦ inr (subst (λ (x : Packet). IsSome (proposed' x.id x.to)) (sym same) (some_is (proposed' p.id p.to) new told))
    ]
  ];
  made = λ i g n e. by_test (same_id i p.id && g == p.to) new (w.proposed i g) n
      ((q : Request) × (w.asked i ≡ Some q) × (q.floor < n) × (has q.groups g ≡ true)) e
      (λ test same.
      let at_floor = body.0.2 in
      let parts = and_parts _ _ test in
      let member : has body.0.0.groups g ≡ true = subst (λ gs. has gs g ≡ true) (sym body.0.3)
      (subst (λ h. has groups h ≡ true) (sym (eqb-true g p.to parts.1)) body.1) in
      (body.0.0, ap w.asked (same_id-true i p.id parts.0) ∙ body.0.1, omega arith, member))
      (λ test old. good.made i g n old);
  groups = groups_at w proposed' p.to (having_delivered (beginning w p floor groups) ds) ds among others good.groups
      (delivers_good w.asked proposed' p.to (beginning w p floor groups) (log_of w p.to) ds
      (mid_start w.asked w.proposed p.to (w.group p.to) (log_of w p.to) p.id floor groups (good.groups p.to)
      (body.0.0, body.0.1, body.0.3) body.1 none) delivers reached);
}
  where
    new : ℕ
    new = next_clock (w.group p.to) floor

    proposed' : Proposals
    proposed' = hears w.proposed p.id p.to (next_clock (w.group p.to) floor)

    body : BodyGood w.asked w.proposed p.to p.id (Start floor groups)
    body = subst (λ b. BodyGood w.asked w.proposed p.to p.id b) is (good.sent p (in_place w.packets k p there))

    among : Among w.proposed (hears w.proposed p.id p.to (next_clock (w.group p.to) floor))
    among = among_hears w.proposed p.id p.to (next_clock (w.group p.to) floor) none

    told : hears w.proposed p.id p.to (next_clock (w.group p.to) floor) p.id p.to ≡ Some (next_clock (w.group p.to) floor)
    told = cond-true _ (Some (next_clock (w.group p.to) floor)) (w.proposed p.id p.to)
        (and_from (same_id p.id p.id) (p.to == p.to) (same_id-refl p.id) (eq-eqb p.to p.to refl))

    others : (i : RequestId) (g n : ℕ) → (g == p.to) ≡ false →
        hears w.proposed p.id p.to (next_clock (w.group p.to) floor) i g ≡ Some n → w.proposed i g ≡ Some n
    others i g n e d =
        sym (cond-false _ (Some (next_clock (w.group p.to) floor)) (w.proposed i g) (and_right (same_id i p.id) (g == p.to) e)) ∙ d

-- ---- it is a proposal that is heard

skeen_hears : (w : World) (k : ℕ) (p : Packet) (from n : ℕ) (ds : List Delivered) → slice_get w.packets k ≡ Some p → SkeenOf w →
    p.body ≡ Proposal from n → Delivers p.to (hearing w p from n) ds →
    Reached (having_delivered (hearing w p from n) ds) (log_of w p.to ++ ds) → SkeenOf (delivered_by w k p (hearing w p from n) ds)
skeen_hears w k p from n ds there good is delivers reached = record {
  sent = λ x here. good.sent x (was_in w.packets k x here);
  coming = λ i q g named member. elim (good.coming i q g named member) [
    | inr told ↦ inr told
    | inl is_sent ↦ elim (still_in w.packets k p there (start_to g i q) is_sent) [
      | inr still ↦ inl still
      | inl same ↦ absurd (start_is_no_proposal q.floor q.groups from n (ap (λ (x : Packet). x.body) same ∙ is))
    ]
  ];
  made = good.made;
  groups = groups_at w w.proposed p.to (having_delivered (hearing w p from n) ds) ds (λ i h m e. e) (λ i g m e d. d) good.groups
      (delivers_good w.asked w.proposed p.to (hearing w p from n) (log_of w p.to) ds
      (mid_proposal w.asked w.proposed p.to (w.group p.to) (log_of w p.to) p.id from n (good.groups p.to) body.1 body.0
      (λ i e. (good.groups from).apart i p.id n e body.0)) delivers reached);
}
  where
    body : BodyGood w.asked w.proposed p.to p.id (Proposal from n)
    body = subst (λ b. BodyGood w.asked w.proposed p.to p.id b) is (good.sent p (in_place w.packets k p there))

-- ---- any packet

pub skeen_arrives : (w new : World) (k : ℕ) (p : Packet) → slice_get w.packets k ≡ Some p → Arrival w k p new → SkeenOf w → SkeenOf new
skeen_arrives w new k p there (LeftOut told out same) good = subst (λ v. SkeenOf v) (sym same) (skeen_left_out w k p there good told)
skeen_arrives w new k p there (Begins floor groups ds is none delivers reached same) good = subst (λ v. SkeenOf v) (sym same)
    (skeen_begins w k p floor groups ds there good is none delivers reached)
skeen_arrives w new k p there (Hears from n ds is delivers reached same) good = subst (λ v. SkeenOf v) (sym same)
    (skeen_hears w k p from n ds there good is delivers reached)

-- what was proposed before stays proposed
pub among_arrives : (w new : World) (k : ℕ) (p : Packet) → Arrival w k p new → Among w.proposed new.proposed
among_arrives w new k p (LeftOut told out same) = subst (λ (v : World). Among w.proposed v.proposed) (sym same) (λ i h m e. e)
among_arrives w new k p (Begins floor groups ds is none delivers reached same) =
    subst (λ (v : World). Among w.proposed v.proposed) (sym same)
    (among_hears w.proposed p.id p.to (next_clock (w.group p.to) floor) none)
among_arrives w new k p (Hears from n ds is delivers reached same) = subst (λ (v : World). Among w.proposed v.proposed) (sym same)
    (λ i h m e. e)

-- ---- a packet is repeated

pub skeen_repeated : (w : World) (p : Packet) → In p w.packets → SkeenOf w → SkeenOf (record w { packets = w.packets ++ p ∷ [] })
skeen_repeated w p there good = record {
  sent = λ x here. elim (In-end x p w.packets here) [
    | inl before ↦ good.sent x before
    | inr same ↦ good.sent x (subst (λ y. In y w.packets) (sym same) there)
  ];
  coming = λ i q g named member. elim (good.coming i q g named member) [
    | inl is_sent ↦ inl (In-left (start_to g i q) w.packets (p ∷ []) is_sent)
    | inr told ↦ inr told
  ];
  made = good.made;
  groups = good.groups;
}
