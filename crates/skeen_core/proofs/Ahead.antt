-- What one packet does to a group that hears it: the clock, what is ahead, and that the rule leaves no choice.
use Rattle.std.proofs.Common.{◌≡◌, ◌≢◌, ℕ, ◌≤◌, ◌==◌, ◌&&◌, true, false, cond, List, [], ◌∷◌, ◌++◌, inl, inr, Option, Some, None, IsSome}
use Rattle.std.proofs.Common.{refl, sym, ap, ◌∙◌, subst, arith, eqb-true, eq-eqb, append-nil}
use Rattle.std.proofs.lemmas.Bool.{both_ways, cases_Bool, and_parts}
use Rattle.std.specs.FinMap.{get}
use Rattle.groups.specs.GroupSet.{has}
use Rattle.groups.specs.declared.stamp.Stamp.{Stamp}
use Rattle.groups.specs.declared.request.RequestId.{RequestId}
use Rattle.skeen_core.specs.declared.packet.Packet.{Packet}
use Rattle.skeen_core.specs.declared.packet.Body.{Body}
use Rattle.skeen_core.specs.declared.packet.Body.TheVariants.{Start, Proposal}
use Rattle.skeen_core.specs.declared.packet.Delivered.{Delivered}
use Rattle.groups.specs.Order.{In}
use Rattle.groups.specs.Stamp.{stamp_lt, final, place_by}
use Rattle.groups.specs.Request.{same_id}
use Rattle.skeen_core.specs.Group.{GroupState, fresh, heard, or_zero, own_at, next_clock, with_start, with_proposal, final_of, lifted}
use Rattle.skeen_core.specs.Group.{MayGo, Ascending, Delivers, Delivering, has_id, without, tell, ReceivesStart, Agrees, BodyMayCome}
use Rattle.skeen_core.specs.Group.{MayCome}
use Rattle.skeen_core.specs.Lawful.{Sound, Lawful}
use Rattle.skeen_core.specs.Runs.{TellsAtMost, HasHeard}
use Rattle.groups.proofs.Ids.{same_id-true, same_id-refl}
use Rattle.groups.proofs.Lists.{In-append}
use Rattle.groups.proofs.Stamps.{lt_irrefl, lt_asym, lt_le, le_lt, lt_from_clocks, final_above, final_within}
use Rattle.skeen_core.proofs.Finite.{heard-with_start, heard-with_proposal, started-without, heard-without}
use Rattle.skeen_core.proofs.Lawful.{None≢Some, same_final, lift_grows, lawful_fresh, SameBut, but_start, but_proposal, own_stays}
use Rattle.skeen_core.proofs.Lawful.{sound_start, sound_proposal, lawful_without, without_none, same_proposal, same_lifted, id_there}
use Rattle.skeen_core.proofs.Lawful.{still_heard, still_started}

-- ---- what a receipt is: nothing, or a sound state from which the group delivers

pub data Step (me : ℕ) (old : GroupState) (id : RequestId) (body : Body) (sent : List Packet) (ds : List Delivered) (new : GroupState)
    : Type 0 where
  Again : sent ≡ [] → ds ≡ [] → new ≡ old → Step me old id body sent ds new
  Begins : (floor : ℕ) (groups : List ℕ) → get old.started id ≡ None → Delivering me (lifted (with_start me old id floor groups) id) ds new
      → (body ≡ Start floor groups) → sent ≡ tell me id (next_clock old floor) groups → Step me old id body sent ds new
  Hears : (from n : ℕ) → Delivering me (lifted (with_proposal old id from n) id) ds new → (body ≡ Proposal from n) → sent ≡ []
      → Step me old id body sent ds new

step_start : (me : ℕ) (old : GroupState) (id : RequestId) (floor : ℕ) (groups : List ℕ) (sent : List Packet) (ds : List Delivered)
    (new : GroupState) (o : Option (List ℕ)) → get old.started id ≡ o →
    ReceivesStart o me old id floor groups sent ds new → Step me old id (Start floor groups) sent ds new
step_start me old id floor groups sent ds new (Some gs) e r = Again r.0 r.1 r.2
step_start me old id floor groups sent ds new None e r = Begins floor groups e r.1 refl r.0

step : (me : ℕ) (old : GroupState) (id : RequestId) (body : Body) (sent : List Packet) (ds : List Delivered) (new : GroupState)
    → Agrees me old id body sent ds new → Step me old id body sent ds new
step me old id (Start floor groups) sent ds new r = step_start me old id floor groups sent ds new (get old.started id) refl r
step me old id (Proposal from n) sent ds new r = Hears from n r.1 refl r.0

start_of : (me : ℕ) (old : GroupState) (id : RequestId) (body : Body) (floor : ℕ) (groups : List ℕ) → body ≡ Start floor groups
    → BodyMayCome me old id body → BodyMayCome me old id (Start floor groups)
start_of me old id body floor groups e m = subst (λ b. BodyMayCome me old id b) e m

-- what the group has reached stays
pub reached_step : (me : ℕ) (old : GroupState) (id : RequestId) (body : Body) (sent : List Packet) (ds : List Delivered) (new : GroupState)
    → Agrees me old id body sent ds new → new.reached ≡ old.reached
reached_step me old id body sent ds new r = by_step (step me old id body sent ds new r)
  where
    by_step : Step me old id body sent ds new → new.reached ≡ old.reached
    by_step (Again s d same) = ap (λ (g : GroupState). g.reached) same
    by_step (Begins floor groups absent delivering is told) = ap (λ (g : GroupState). g.reached) delivering.after
    by_step (Hears from n delivering is told) = ap (λ (g : GroupState). g.reached) delivering.after

-- ---- lawful after each packet

pub lawful_step : (me : ℕ) (old : GroupState) (p : Packet) (sent : List Packet) (ds : List Delivered) (new : GroupState) → Lawful me old
    → MayCome me old p →
    Agrees me old p.id p.body sent ds new → Lawful me new
lawful_step me old p sent ds new lawful may r = by_step (step me old p.id p.body sent ds new r)
  where
    by_step : Step me old p.id p.body sent ds new → Lawful me new
    by_step (Again s d same) = subst (λ g. Lawful me g) (sym same) lawful
    by_step (Begins floor groups absent delivering is told) =
        let member = (start_of me old p.id p.body floor groups is may.body).0 in
        subst (λ g. Lawful me g) (sym delivering.after)
        (lawful_without me _ ds (sound_start me old p.id floor groups lawful.sound member) delivering.delivers)
    by_step (Hears from n delivering is told) =
        let body = subst (λ b. BodyMayCome me old p.id b) is may.body in
        subst (λ g. Lawful me g) (sym delivering.after)
        (lawful_without me _ ds (sound_proposal me old p.id from n lawful.sound body.0 body.2) delivering.delivers)

-- ---- the clock

pub clock_step : (me : ℕ) (old : GroupState) (id : RequestId) (body : Body) (sent : List Packet) (ds : List Delivered) (new : GroupState)
    → Agrees me old id body sent ds new → old.clock ≤ new.clock
clock_step me old id body sent ds new r = by_step (step me old id body sent ds new r)
  where
    by_step : Step me old id body sent ds new → old.clock ≤ new.clock
    by_step (Again s d same) = let clocks = ap (λ (g : GroupState). g.clock) same in omega arith
    by_step (Begins floor groups absent delivering is told) =
        let clocks = ap (λ (g : GroupState). g.clock) delivering.after in
        let lifts = lift_grows (next_clock old floor)
        (final_of (with_start me old id floor groups) id (get (with_start me old id floor groups).started id)) in
        omega arith
    by_step (Hears from n delivering is told) =
        let clocks = ap (λ (g : GroupState). g.clock) delivering.after in
        let lifts = lift_grows old.clock (final_of (with_proposal old id from n) id (get old.started id)) in
        omega arith

pub tells_more : (c d : ℕ) (b : Body) → TellsAtMost c b → c ≤ d → TellsAtMost d b
tells_more c d (Start floor groups) t more = tt
tells_more c d (Proposal from n) t more = omega arith

tell_at : (me : ℕ) (id : RequestId) (n : ℕ) (groups : List ℕ) (p : Packet) → In p (tell me id n groups) → TellsAtMost n p.body
tell_at me id n [] p there = absurd there
tell_at me id n (g ∷ gs) p there =
    elim (g == me) as (λ b. In p (cond b (tell me id n gs) (record { to = g; id = id; body = Proposal me n } ∷ tell me id n gs))
    → TellsAtMost n p.body) [
      | true ↦ λ rest. tell_at me id n gs p rest
      | false ↦ elim [
        | inl same ↦ subst (λ (q : Packet). TellsAtMost n q.body) (sym same) (omega arith)
        | inr rest ↦ tell_at me id n gs p rest
      ]
    ] there

pub told_step : (me : ℕ) (old : GroupState) (id : RequestId) (body : Body) (sent : List Packet) (ds : List Delivered) (new : GroupState)
    → Agrees me old id body sent ds new → (p : Packet) → In p sent → TellsAtMost new.clock p.body
told_step me old id body sent ds new r p there = by_step (step me old id body sent ds new r)
  where
    by_step : Step me old id body sent ds new → TellsAtMost new.clock p.body
    by_step (Again none d same) = absurd (subst (λ l. In p l) none there)
    by_step (Begins floor groups absent delivering is told) =
        let clocks = ap (λ (g : GroupState). g.clock) delivering.after in
        let lifts = lift_grows (next_clock old floor)
        (final_of (with_start me old id floor groups) id (get (with_start me old id floor groups).started id)) in
        tells_more (next_clock old floor) new.clock p.body (tell_at me id (next_clock old floor) groups p (subst (λ l. In p l) told there))
        (omega arith)
    by_step (Hears from n delivering is none) = absurd (subst (λ l. In p l) none there)

-- ---- what is delivered is ahead of what is kept

-- where a started request stands
abbrev pub stands_at : ℕ → GroupState → RequestId → List ℕ → Stamp
stands_at me grp i gs = place_by (final (heard grp i) gs) (own_at me grp i)

pub record Ahead (me : ℕ) (grp : GroupState) (ds : List Delivered) : Type 0 where
  pub clock : (d : Delivered) → In d ds → d.stamp.clock ≤ grp.clock
  pub below : (d : Delivered) (i : RequestId) (gs : List ℕ) → In d ds → get grp.started i ≡ Some gs
      → stamp_lt d.stamp (stands_at me grp i gs) ≡ true

-- a stamp below the own proposal of a started request is below its place
below_place : (me : ℕ) (grp : GroupState) (i : RequestId) (gs : List ℕ) (t : Stamp) → Sound me grp → get grp.started i ≡ Some gs
    → stamp_lt t (own_at me grp i) ≡ true → stamp_lt t (stands_at me grp i gs) ≡ true
below_place me grp i gs t sound there less = by_final (final (heard grp i) gs) refl
  where
    by_final : (o : Option Stamp) → final (heard grp i) gs ≡ o → stamp_lt t (place_by o (own_at me grp i)) ≡ true
    by_final None e = less
    by_final (Some s) e =
        let p = final_above (heard grp i) gs s me e (sound.started i gs there).1 in
        let own : own_at me grp i ≡ record { clock = p.clock; group = me } = ap (λ o. record { clock = or_zero o; group = me }) p.heard in
        lt_le t (own_at me grp i) s less (ap (λ u. stamp_lt s u) own ∙ p.within)

-- a state that has no less of each started request, and starts none below the clock
ahead_same : (me : ℕ) (old new : GroupState) (id : RequestId) (ds : List Delivered) → Ahead me old ds → SameBut id old new →
    ((d : Delivered) (gs : List ℕ) → In d ds → get new.started id ≡ Some gs → stamp_lt d.stamp (stands_at me new id gs) ≡ true) → (c : ℕ)
    → new.clock ≤ c → Ahead me (record new { clock = c }) ds
ahead_same me old new id ds ahead but own c more = record {
  clock = λ d there. let before = ahead.clock d there in let grown = but.clock in omega arith;
  below = λ d i gs there starts. elim (cases_Bool (same_id i id)) [
    | inl e ↦ subst (λ j. stamp_lt d.stamp (stands_at me new j gs) ≡ true) (sym (same_id-true i id e))
        (own d gs there (ap (λ j. get new.started j) (sym (same_id-true i id e)) ∙ starts))
    | inr e ↦
        let before = ahead.below d i gs there (sym (but.started i e) ∙ starts) in
        ap (λ o. stamp_lt d.stamp (place_by o (own_at me new i))) (same_final new old i gs (λ g. but.heard i g e))
        ∙ ap (λ o. stamp_lt d.stamp (place_by (final (heard old i) gs) (record { clock = or_zero o; group = me }))) (but.heard i me e)
        ∙ before
  ];
}

-- a request that begins stands above all that was delivered
pub ahead_start : (me : ℕ) (old : GroupState) (id : RequestId) (floor : ℕ) (groups : List ℕ) (ds : List Delivered) → Sound me old
    → has groups me ≡ true → Ahead me old ds → Ahead me (lifted (with_start me old id floor groups) id) ds
ahead_start me old id floor groups ds sound member ahead =
    ahead_same me old (with_start me old id floor groups) id ds ahead (but_start me old id floor groups) own _
    (lift_grows (next_clock old floor)
    (final_of (with_start me old id floor groups) id (get (with_start me old id floor groups).started id)))
  where
    own : (d : Delivered) (gs : List ℕ) → In d ds → get (with_start me old id floor groups).started id ≡ Some gs
        → stamp_lt d.stamp (stands_at me (with_start me old id floor groups) id gs) ≡ true
    own d gs there starts =
        let heard_own : heard (with_start me old id floor groups) id me ≡ Some (next_clock old floor) =
        heard-with_start me old id floor groups id me
        ∙ ap (λ b. cond (b && me == me) (Some (next_clock old floor)) (heard old id me)) (same_id-refl id)
        ∙ ap (λ b. cond b (Some (next_clock old floor)) (heard old id me)) (eq-eqb me me refl) in
        let low = ahead.clock d there in
        let less : stamp_lt d.stamp (record { clock = next_clock old floor; group = me }) ≡ true =
        lt_from_clocks d.stamp (record { clock = next_clock old floor; group = me }) (omega arith) in
        below_place me (lifted (with_start me old id floor groups) id) id gs d.stamp
        (sound_start me old id floor groups sound member) starts
        (ap (λ o. stamp_lt d.stamp (record { clock = or_zero o; group = me })) heard_own ∙ less)

-- what hears more stands no lower
pub ahead_proposal : (me : ℕ) (old : GroupState) (id : RequestId) (from n : ℕ) (ds : List Delivered) → Sound me old → from ≢ me
    → ((i : RequestId) → heard old i from ≡ Some n → i ≡ id) → ((m : ℕ) → heard old id from ≡ Some m → m ≡ n) → Ahead me old ds →
    Ahead me (lifted (with_proposal old id from n) id) ds
ahead_proposal me old id from n ds sound other single agrees ahead =
    ahead_same me old (with_proposal old id from n) id ds ahead (but_proposal old id from n) own _
    (lift_grows old.clock (final_of (with_proposal old id from n) id (get old.started id)))
  where
    more : (g m : ℕ) → heard old id g ≡ Some m → heard (with_proposal old id from n) id g ≡ Some m
    more g m e = heard-with_proposal old id from n id g ∙ elim (cases_Bool (same_id id id && g == from)) [
      | inl p ↦ ap (λ b. cond b (Some n) (heard old id g)) p
          ∙ ap Some (sym (agrees m (ap (λ h. heard old id h) (sym (eqb-true g from (and_parts (same_id id id) (g == from) p).1)) ∙ e)))
      | inr p ↦ ap (λ b. cond b (Some n) (heard old id g)) p ∙ e
    ]

    own : (d : Delivered) (gs : List ℕ) → In d ds → get old.started id ≡ Some gs
        → stamp_lt d.stamp (stands_at me (with_proposal old id from n) id gs) ≡ true
    own d gs there starts = by_old (final (heard old id) gs) refl (ahead.below d id gs there starts)
      where
        by_old : (o : Option Stamp) → final (heard old id) gs ≡ o → stamp_lt d.stamp (place_by o (own_at me old id)) ≡ true
            → stamp_lt d.stamp (stands_at me (with_proposal old id from n) id gs) ≡ true
        by_old (Some s) e less = ap (λ o. stamp_lt d.stamp (place_by o (own_at me (with_proposal old id from n) id)))
            (final_within (heard old id) (heard (with_proposal old id from n) id) gs s more e) ∙ less
        by_old None e less = below_place me (lifted (with_proposal old id from n) id) id gs d.stamp
            (sound_proposal me old id from n sound other single) starts
            (ap (λ o. stamp_lt d.stamp (record { clock = or_zero o; group = me })) (own_stays me old id from n other id) ∙ less)

-- ---- a delivery

kept_place : (me : ℕ) (grp : GroupState) (ds : List Delivered) (i : RequestId) (gs : List ℕ) → has_id ds i ≡ false
    → stands_at me (without grp ds) i gs ≡ stands_at me grp i gs
kept_place me grp ds i gs e =
    ap (λ o. place_by o (own_at me (without grp ds) i)) (same_final (without grp ds) grp i gs (still_heard grp ds i e))
    ∙ ap (λ o. place_by (final (heard grp i) gs) (record { clock = or_zero o; group = me })) (still_heard grp ds i e me)

left_started : (grp : GroupState) (ds : List Delivered) (i : RequestId) (gs : List ℕ) → get (without grp ds).started i ≡ Some gs
    → (has_id ds i ≡ false) × (get grp.started i ≡ Some gs)
left_started grp ds i gs e = elim (cases_Bool (has_id ds i)) [
  | inl p ↦ absurd (None≢Some gs (ap (λ b. cond b None (get grp.started i)) (sym p) ∙ sym (started-without grp ds i) ∙ e))
  | inr p ↦ (p, sym (still_started grp ds i p) ∙ e)
]

-- what stays stands above what goes
above_delivered : (me : ℕ) (grp : GroupState) (ds : List Delivered) → Delivers me grp ds → (d : Delivered) (i : RequestId) (gs : List ℕ)
    → In d ds → has_id ds i ≡ false → get grp.started i ≡ Some gs → stamp_lt d.stamp (stands_at me grp i gs) ≡ true
above_delivered me grp ds delivers d i gs there stays starts = by_final (final (heard grp i) gs) refl
  where
    by_final : (o : Option Stamp) → final (heard grp i) gs ≡ o → stamp_lt d.stamp (place_by o (own_at me grp i)) ≡ true
    by_final None e = (delivers.only d there).below i gs starts e
    by_final (Some s) e = elim (cases_Bool (stamp_lt d.stamp s)) [
      | inl less ↦ less
      | inr not_less ↦
          let it : Delivered = record { id = i; stamp = s; groups = gs } in
          let may : MayGo me grp (record { id = i; stamp = s; groups = gs }) =
          record {
            started = starts;
            stamp = e;
            below = λ u hs starts' unsettled. le_lt s d.stamp (own_at me grp u) not_less
                ((delivers.only d there).below u hs starts' unsettled);
          } in
          absurd (both_ways _ stays (id_there ds (record { id = i; stamp = s; groups = gs }) (delivers.all _ may)))
    ]

pub ahead_delivers : (me : ℕ) (grp : GroupState) (old ds : List Delivered) → Sound me grp → Ahead me grp old → Delivers me grp ds
    → Ahead me (without grp ds) (old ++ ds)
ahead_delivers me grp old ds sound ahead delivers = record {
  clock = λ d there. elim (In-append d old ds there) [
    | inl before ↦ ahead.clock d before
    | inr now ↦ let may = delivers.only d now in sound.tops d.id d.groups d.stamp may.started may.stamp
  ];
  below = λ d i gs there starts.
      let left = left_started grp ds i gs starts in
      ap (λ s. stamp_lt d.stamp s) (kept_place me grp ds i gs left.0) ∙ elim (In-append d old ds there) [
        | inl before ↦ ahead.below d i gs before left.1
        | inr now ↦ above_delivered me grp ds delivers d i gs now left.0 left.1
      ];
}

pub ascending_append : (xs ys : List Delivered) → Ascending xs → Ascending ys
    → ((x y : Delivered) → In x xs → In y ys → stamp_lt x.stamp y.stamp ≡ true) → Ascending (xs ++ ys)
ascending_append [] ys up up' less = up'
ascending_append (x ∷ xs) ys up up' less = (
  λ e there. elim (In-append e xs ys there) [ inl before ↦ up.0 e before | inr after ↦ less x e (inl refl) after ],
  ascending_append xs ys up.1 up' (λ a b there here. less a b (inr there) here),
)

-- what goes now stands above what went before
pub below_now : (me : ℕ) (grp : GroupState) (old ds : List Delivered) → Ahead me grp old → Delivers me grp ds → (x y : Delivered) → In x old
    → In y ds → stamp_lt x.stamp y.stamp ≡ true
below_now me grp old ds ahead delivers x y there here =
    let may = delivers.only y here in
    ap (λ o. stamp_lt x.stamp (place_by o (own_at me grp y.id))) (sym may.stamp) ∙ ahead.below x y.id y.groups there may.started

-- ---- all that a group has delivered

pub record Going (me : ℕ) (grp : GroupState) (ds : List Delivered) : Type 0 where
  pub lawful : Lawful me grp
  pub ahead : Ahead me grp ds
  pub ascending : Ascending ds

pub going_step : (me : ℕ) (old : GroupState) (p : Packet) (sent : List Packet) (before ds : List Delivered) (new : GroupState)
    → Going me old before → MayCome me old p →
    Agrees me old p.id p.body sent ds new → Going me new (before ++ ds)
going_step me old p sent before ds new going may r = record {
  lawful = lawful_step me old p sent ds new going.lawful may r;
  ahead = (by_step (step me old p.id p.body sent ds new r)).0;
  ascending = (by_step (step me old p.id p.body sent ds new r)).1;
}
  where
    from_mid : (mid : GroupState) → Sound me mid → Ahead me mid before → Delivering me mid ds new → Ahead me new (before ++ ds)
        × Ascending (before ++ ds)
    from_mid mid sound ahead delivering = (
      subst (λ g. Ahead me g (before ++ ds)) (sym delivering.after) (ahead_delivers me mid before ds sound ahead delivering.delivers),
      ascending_append before ds going.ascending delivering.delivers.ascending (below_now me mid before ds ahead delivering.delivers),
    )

    by_step : Step me old p.id p.body sent ds new → Ahead me new (before ++ ds) × Ascending (before ++ ds)
    by_step (Again s d same) =
        let nothing : before ++ ds ≡ before = ap (λ l. before ++ l) d ∙ append-nil before in (
          subst (λ l. Ahead me new l) (sym nothing) (subst (λ g. Ahead me g before) (sym same) going.ahead),
          subst (λ l. Ascending l) (sym nothing) going.ascending,
        )
    by_step (Begins floor groups absent delivering is told) =
        let member = (start_of me old p.id p.body floor groups is may.body).0 in
        from_mid _ (sound_start me old p.id floor groups going.lawful.sound member)
        (ahead_start me old p.id floor groups before going.lawful.sound member going.ahead) delivering
    by_step (Hears from n delivering is told) =
        let body = subst (λ b. BodyMayCome me old p.id b) is may.body in
        from_mid _ (sound_proposal me old p.id from n going.lawful.sound body.0 body.2)
        (ahead_proposal me old p.id from n before going.lawful.sound body.0 body.2 body.3 going.ahead) delivering

pub going_fresh : (me : ℕ) → Going me fresh []
going_fresh me = record {
  lawful = lawful_fresh me;
  ahead = record { clock = λ d there. absurd there; below = λ d i gs there. absurd there };
  ascending = tt;
}

-- ---- one packet

pub forgotten_step : (me : ℕ) (old new : GroupState) (id : RequestId) (body : Body) (sent : List Packet) (ds : List Delivered)
    → Agrees me old id body sent ds new →
    (d : Delivered) → In d ds → (get new.started d.id ≡ None) × ((g : ℕ) → heard new d.id g ≡ None)
forgotten_step me old new id body sent ds r d there = by_step (step me old id body sent ds new r)
  where
    gone : (mid : GroupState) → Delivering me mid ds new → (get new.started d.id ≡ None) × ((g : ℕ) → heard new d.id g ≡ None)
    gone mid delivering =
        let named = id_there ds d there in (
          ap (λ (g : GroupState). get g.started d.id) delivering.after ∙ started-without mid ds d.id
              ∙ ap (λ b. cond b None (get mid.started d.id)) named,
          λ h. ap (λ (g : GroupState). heard g d.id h) delivering.after ∙ heard-without mid ds d.id h
              ∙ ap (λ b. cond b None (heard mid d.id h)) named,
        )

    by_step : Step me old id body sent ds new → (get new.started d.id ≡ None) × ((g : ℕ) → heard new d.id g ≡ None)
    by_step (Again s none same) = absurd (subst (λ l. In d l) none there)
    by_step (Begins floor groups absent delivering is told) = gone _ delivering
    by_step (Hears from n delivering is told) = gone _ delivering

empty_of : (ds : List Delivered) → ((d : Delivered) → In d ds → ⊥) → ds ≡ []
empty_of [] none = refl
empty_of (d ∷ ds) none = absurd (none d (inl refl))

-- what the group has already changes nothing
pub again_step : (me : ℕ) (old new : GroupState) (id : RequestId) (body : Body) (sent : List Packet) (ds : List Delivered) →
    Lawful me old → HasHeard old id body → Agrees me old id body sent ds new → (sent ≡ []) × (ds ≡ []) × (new ≡ old)
again_step me old new id (Start floor groups) sent ds lawful again r = by_start (get old.started id) refl again r
  where
    by_start : (o : Option (List ℕ)) → get old.started id ≡ o → IsSome o → ReceivesStart o me old id floor groups sent ds new
        → (sent ≡ []) × (ds ≡ []) × (new ≡ old)
    by_start (Some gs) e s r = r
    by_start None e s r = absurd (both_ways _ refl s)
again_step me old new id (Proposal from n) sent ds lawful again r =
    let same : lifted (with_proposal old id from n) id ≡ old = ap (λ g. lifted g id) (same_proposal old id from n again)
    ∙ same_lifted me old id lawful.sound in
    let there : Delivering me old ds new = subst (λ g. Delivering me g ds new) same r.1 in
    let none : ds ≡ [] = empty_of ds (λ d here. lawful.stuck d (there.delivers.only d here)) in
    (r.0, none, there.after ∙ ap (without old) none ∙ without_none old)

-- ---- the rule leaves no choice

pub same_ascending : (xs ys : List Delivered) → Ascending xs → Ascending ys → ((d : Delivered) → In d xs → In d ys)
    → ((d : Delivered) → In d ys → In d xs) → xs ≡ ys
same_ascending [] [] up up' to from = refl
same_ascending [] (y ∷ ys) up up' to from = absurd (from y (inl refl))
same_ascending (x ∷ xs) [] up up' to from = absurd (to x (inl refl))
same_ascending (x ∷ xs) (y ∷ ys) up up' to from =
    let e = firsts (to x (inl refl)) (from y (inl refl)) in
    ap (λ z. z ∷ xs) e ∙ ap (λ l. y ∷ l) (same_ascending xs ys up.1 up'.1
    (λ d there. elim (to d (inr there)) [
      | inl same ↦ absurd (both_ways _ (lt_irrefl x.stamp) (ap (λ z. stamp_lt x.stamp z.stamp) (e ∙ sym same) ∙ up.0 d there))
      | inr rest ↦ rest
    ])
    (λ d there. elim (from d (inr there)) [
      | inl same ↦ absurd (both_ways _ (lt_irrefl y.stamp) (ap (λ z. stamp_lt y.stamp z.stamp) (sym e ∙ sym same) ∙ up'.0 d there))
      | inr rest ↦ rest
    ]))
  where
    firsts : In x (y ∷ ys) → In y (x ∷ xs) → x ≡ y
    firsts (inl same) there = same
    firsts (inr there) (inl same) = sym same
    firsts (inr there) (inr here) = absurd (both_ways _ (lt_asym y.stamp x.stamp (up'.0 x there)) (up.0 y here))

delivering_same : (me : ℕ) (grp : GroupState) (ds ds' : List Delivered) (new new' : GroupState) → Delivering me grp ds new
    → Delivering me grp ds' new' → (ds ≡ ds') × (new ≡ new')
delivering_same me grp ds ds' new new' a b =
    let same = same_ascending ds ds' a.delivers.ascending b.delivers.ascending (λ d there. b.delivers.all d (a.delivers.only d there))
    (λ d there. a.delivers.all d (b.delivers.only d there)) in
    (same, a.after ∙ ap (without grp) same ∙ sym b.after)

pub determines_step : (me : ℕ) (old new new' : GroupState) (id : RequestId) (body : Body) (sent sent' : List Packet)
    (ds ds' : List Delivered) → Agrees me old id body sent ds new → Agrees me old id body sent' ds' new' →
    (sent ≡ sent') × (ds ≡ ds') × (new ≡ new')
determines_step me old new new' id (Start floor groups) sent sent' ds ds' r r' = by_start (get old.started id) r r'
  where
    by_start : (o : Option (List ℕ)) → ReceivesStart o me old id floor groups sent ds new
        → ReceivesStart o me old id floor groups sent' ds' new' → (sent ≡ sent') × (ds ≡ ds') × (new ≡ new')
    by_start (Some gs) a b = (a.0 ∙ sym b.0, a.1 ∙ sym b.1, a.2 ∙ sym b.2)
    by_start None a b = let both = delivering_same me _ ds ds' new new' a.1 b.1 in (a.0 ∙ sym b.0, both.0, both.1)
determines_step me old new new' id (Proposal from n) sent sent' ds ds' r r' =
    let both = delivering_same me _ ds ds' new new' r.1 r'.1 in (r.0 ∙ sym r'.0, both.0, both.1)
