-- Each packet that may come leaves a group's state sound, and what is delivered leaves nothing that could go.
use Rattle.std.proofs.Common.{◌≡◌, ◌≢◌, ℕ, ◌≤◌, ◌==◌, ◌&&◌, ◌||◌, Bool, true, false, cond, List, [], ◌∷◌, Option, Some, None, IsSome, refl}
use Rattle.std.proofs.Common.{sym, ap, ◌∙◌, subst, arith, inl, inr, eqb-true, eq-eqb}
use Rattle.std.proofs.lemmas.Bool.{both_ways, cases_Bool, and_parts, or_cases}
use Rattle.std.specs.FinMap.{FinMap, get}
use Rattle.groups.specs.GroupSet.{has}
use Rattle.groups.specs.declared.stamp.Stamp.{Stamp}
use Rattle.groups.specs.declared.request.RequestId.{RequestId}
use Rattle.skeen_core.specs.declared.packet.Delivered.{Delivered}
use Rattle.groups.specs.Order.{In}
use Rattle.groups.specs.Stamp.{stamp_lt, final}
use Rattle.groups.specs.Request.{same_id, source_cmp}
use Rattle.skeen_core.specs.Group.{GroupState, fresh, heard, or_zero, next_clock, with_start, with_proposal, final_of, lift, lifted, MayGo}
use Rattle.skeen_core.specs.Group.{Delivers, has_id, without}
use Rattle.skeen_core.specs.Kept.{IsKept}
use Rattle.skeen_core.specs.Lawful.{Sound, Lawful}
use Rattle.skeen_core.specs.Pending.{Entry}
use Rattle.groups.proofs.Ids.{same_id-true, eq-same_id}
use Rattle.groups.proofs.Options.{some_same}
use Rattle.skeen_core.proofs.Finite.{started-fresh, heard-fresh, started-with_start, heard-with_start, heard-with_proposal, started-without}
use Rattle.skeen_core.proofs.Finite.{heard-without, same_state}

-- ---- small facts

-- the final stamp is the same where the same is heard
pub same_final : (a b : GroupState) (i : RequestId) (gs : List ℕ) → ((g : ℕ) → heard a i g ≡ heard b i g)
    → final (heard a i) gs ≡ final (heard b i) gs
same_final a b i gs e = ap (λ (f : ℕ → Option ℕ). final f gs) (λ k g. e g k)

pub lift_grows : (c : ℕ) (o : Option Stamp) → c ≤ lift c o
lift_grows c None = omega arith
lift_grows c (Some s) = omega arith

pub lift_above : (c : ℕ) (o : Option Stamp) (s : Stamp) → o ≡ Some s → s.clock ≤ lift c o
lift_above c o s e = subst (λ (o : Option Stamp). s.clock ≤ lift c o) (sym e) (omega arith)

pub some_is : {X : Type 0} (o : Option X) (x : X) → o ≡ Some x → IsSome o
some_is o x e = subst (λ o. IsSome o) (sym e) refl

pub None≢Some : {X : Type 0} (x : X) → None ≡ Some x → ⊥
None≢Some x e = cc

-- ---- a new group

pub sound_fresh : (me : ℕ) → Sound me fresh
sound_fresh me = record {
  apart = λ i j h n e d. absurd (None≢Some n (sym (heard-fresh i h) ∙ e));
  own = λ i n e. absurd (None≢Some n (sym (heard-fresh i me) ∙ e));
  started = λ i gs e. absurd (None≢Some gs (sym (started-fresh i) ∙ e));
  tops = λ i gs s e d. absurd (None≢Some gs (sym (started-fresh i) ∙ e));
}

pub lawful_fresh : (me : ℕ) → Lawful me fresh
lawful_fresh me = record { sound = sound_fresh me; stuck = λ d m. None≢Some d.groups (sym (started-fresh d.id) ∙ m.started) }

-- ---- the state once a packet is added: the clock is lifted for its request alone

-- new has what old has of the other requests
pub record SameBut (id : RequestId) (old new : GroupState) : Type 0 where
  pub clock : old.clock ≤ new.clock
  pub started : (i : RequestId) → same_id i id ≡ false → get new.started i ≡ get old.started i
  pub heard : (i : RequestId) (g : ℕ) → same_id i id ≡ false → heard new i g ≡ heard old i g

pub but_start : (me : ℕ) (grp : GroupState) (id : RequestId) (floor : ℕ) (groups : List ℕ)
    → SameBut id grp (with_start me grp id floor groups)
but_start me grp id floor groups = record {
  clock = omega arith;
  started = λ i e. started-with_start me grp id floor groups i ∙ ap (λ b. cond b (Some groups) (get grp.started i)) e;
  heard = λ i g e. heard-with_start me grp id floor groups i g
      ∙ ap (λ b. cond (b && g == me) (Some (next_clock grp floor)) (heard grp i g)) e;
}

pub but_proposal : (grp : GroupState) (id : RequestId) (from n : ℕ) → SameBut id grp (with_proposal grp id from n)
but_proposal grp id from n = record {
  clock = omega arith;
  started = λ i e. refl;
  heard = λ i g e. heard-with_proposal grp id from n i g ∙ ap (λ b. cond (b && g == from) (Some n) (heard grp i g)) e;
}

pub tops_lifted : (me : ℕ) (old new : GroupState) (id : RequestId) → Sound me old → SameBut id old new →
    (i : RequestId) (gs : List ℕ) (s : Stamp) → get new.started i ≡ Some gs → final (heard new i) gs ≡ Some s
    → s.clock ≤ (lifted new id).clock
tops_lifted me old new id sound but i gs s there settled = elim (cases_Bool (same_id i id)) [
  | inl e ↦ let same = same_id-true i id e in
      lift_above new.clock (final_of new id (get new.started id)) s
      (subst (λ j. final_of new j (get new.started j) ≡ Some s) same (ap (final_of new i) there ∙ settled))
  | inr e ↦
      let before = sound.tops i gs s (sym (but.started i e) ∙ there) (sym (same_final new old i gs (λ g. but.heard i g e)) ∙ settled) in
      let grown = but.clock in let lifts = lift_grows new.clock (final_of new id (get new.started id)) in omega arith
]

-- ---- a Start

abbrev begun : ℕ → GroupState → RequestId → ℕ → List ℕ → GroupState
begun me grp id floor groups = lifted (with_start me grp id floor groups) id

heard_new : (me : ℕ) (grp : GroupState) (id : RequestId) (floor : ℕ) (groups : List ℕ) (i : RequestId) (h n : ℕ) →
    heard (with_start me grp id floor groups) i h ≡ Some n → (same_id i id && h == me) ≡ true → next_clock grp floor ≡ n
heard_new me grp id floor groups i h n e p =
    some_same _ _ (ap (λ b. cond b (Some (next_clock grp floor)) (heard grp i h)) (sym p)
    ∙ sym (heard-with_start me grp id floor groups i h) ∙ e)

heard_old : (me : ℕ) (grp : GroupState) (id : RequestId) (floor : ℕ) (groups : List ℕ) (i : RequestId) (h n : ℕ) →
    heard (with_start me grp id floor groups) i h ≡ Some n → (same_id i id && h == me) ≡ false → heard grp i h ≡ Some n
heard_old me grp id floor groups i h n e p =
    ap (λ b. cond b (Some (next_clock grp floor)) (heard grp i h)) (sym p) ∙ sym (heard-with_start me grp id floor groups i h) ∙ e

start_there : (me : ℕ) (grp : GroupState) (id : RequestId) (floor : ℕ) (groups : List ℕ) (i : RequestId) → same_id i id ≡ true →
    get (with_start me grp id floor groups).started i ≡ Some groups
start_there me grp id floor groups i p = started-with_start me grp id floor groups i ∙ ap (λ b. cond b (Some groups) (get grp.started i)) p

own_there : (me : ℕ) (grp : GroupState) (id : RequestId) (floor : ℕ) (groups : List ℕ) (i : RequestId) → same_id i id ≡ true →
    heard (with_start me grp id floor groups) i me ≡ Some (next_clock grp floor)
own_there me grp id floor groups i p =
    heard-with_start me grp id floor groups i me ∙ ap (λ b. cond (b && me == me) (Some (next_clock grp floor)) (heard grp i me)) p
    ∙ ap (λ b. cond b (Some (next_clock grp floor)) (heard grp i me)) (eq-eqb me me refl)

-- no other proposal of the group has the new clock
not_new : (me : ℕ) (grp : GroupState) (floor : ℕ) (i : RequestId) (h n : ℕ) → Sound me grp → h ≡ me → heard grp i h ≡ Some n
    → next_clock grp floor ≡ n → ⊥
not_new me grp floor i h n sound at e new =
    let before = (sound.own i n (subst (λ g. heard grp i g ≡ Some n) at e)).0 in absurd (omega arith)

-- started before, started now
pub stays_started : (me : ℕ) (grp : GroupState) (id : RequestId) (floor : ℕ) (groups : List ℕ) (i : RequestId)
    → IsSome (get grp.started i) →
    IsSome (get (with_start me grp id floor groups).started i)
stays_started me grp id floor groups i before = elim (cases_Bool (same_id i id)) [
  | inl p ↦ some_is _ groups (start_there me grp id floor groups i p)
  | inr p ↦ subst (λ o. IsSome o) (sym ((but_start me grp id floor groups).started i p)) before
]

pub sound_start : (me : ℕ) (grp : GroupState) (id : RequestId) (floor : ℕ) (groups : List ℕ) → Sound me grp → has groups me ≡ true →
    Sound me (lifted (with_start me grp id floor groups) id)
sound_start me grp id floor groups sound member = record {
  apart = λ i j h n e d. elim (cases_Bool (same_id i id && h == me)) [
    | inl p ↦ elim (cases_Bool (same_id j id && h == me)) [
      | inl q ↦ same_id-true i id (and_parts _ _ p).0 ∙ sym (same_id-true j id (and_parts _ _ q).0)
      | inr q ↦ absurd (not_new me grp floor j h n sound (eqb-true h me (and_parts _ _ p).1) (heard_old me grp id floor groups j h n d q)
          (heard_new me grp id floor groups i h n e p))
    ]
    | inr p ↦ elim (cases_Bool (same_id j id && h == me)) [
      | inl q ↦ absurd (not_new me grp floor i h n sound (eqb-true h me (and_parts _ _ q).1) (heard_old me grp id floor groups i h n e p)
          (heard_new me grp id floor groups j h n d q))
      | inr q ↦ sound.apart i j h n (heard_old me grp id floor groups i h n e p) (heard_old me grp id floor groups j h n d q)
    ]
  ];
  own = λ i n e.
      let lifts = lift_grows (next_clock grp floor)
      (final_of (with_start me grp id floor groups) id (get (with_start me grp id floor groups).started id)) in
      elim (cases_Bool (same_id i id && me == me)) [
        | inl p ↦ (
          let it = heard_new me grp id floor groups i me n e p in
              omega arith,
          some_is _ groups (start_there me grp id floor groups i (and_parts _ _ p).0),
        )
        | inr p ↦ let before = sound.own i n (heard_old me grp id floor groups i me n e p) in
            (omega arith, stays_started me grp id floor groups i before.1)
      ];
  started = λ i gs e. elim (cases_Bool (same_id i id)) [
    | inl p ↦ (
      some_is _ (next_clock grp floor) (own_there me grp id floor groups i p),
      let same : groups ≡ gs = some_same _ _ (sym (start_there me grp id floor groups i p) ∙ e) in
          subst (λ hs. has hs me ≡ true) same member,
    )
    | inr p ↦ let before = sound.started i gs (sym ((but_start me grp id floor groups).started i p) ∙ e) in
        (subst (λ o. IsSome o) (sym ((but_start me grp id floor groups).heard i me p)) before.0, before.1)
  ];
  tops = tops_lifted me grp (with_start me grp id floor groups) id sound (but_start me grp id floor groups);
}

-- ---- a Proposal

told_new : (grp : GroupState) (id : RequestId) (from n : ℕ) (i : RequestId) (h m : ℕ) → heard (with_proposal grp id from n) i h ≡ Some m →
    (same_id i id && h == from) ≡ true → n ≡ m
told_new grp id from n i h m e p =
    some_same _ _ (ap (λ b. cond b (Some n) (heard grp i h)) (sym p) ∙ sym (heard-with_proposal grp id from n i h) ∙ e)

told_old : (grp : GroupState) (id : RequestId) (from n : ℕ) (i : RequestId) (h m : ℕ) → heard (with_proposal grp id from n) i h ≡ Some m →
    (same_id i id && h == from) ≡ false → heard grp i h ≡ Some m
told_old grp id from n i h m e p =
    ap (λ b. cond b (Some n) (heard grp i h)) (sym p) ∙ sym (heard-with_proposal grp id from n i h) ∙ e

-- another group's proposal isn't the group's own
pub own_stays : (me : ℕ) (grp : GroupState) (id : RequestId) (from n : ℕ) → from ≢ me → (i : RequestId)
    → heard (with_proposal grp id from n) i me ≡ heard grp i me
own_stays me grp id from n other i =
    let no : (same_id i id && me == from) ≡ false = elim (cases_Bool (same_id i id && me == from)) [
      | inl p ↦ absurd (other (sym (eqb-true me from (and_parts (same_id i id) (me == from) p).1)))
      | inr p ↦ p
    ] in
    heard-with_proposal grp id from n i me ∙ ap (λ b. cond b (Some n) (heard grp i me)) no

pub sound_proposal : (me : ℕ) (grp : GroupState) (id : RequestId) (from n : ℕ) → Sound me grp → from ≢ me →
    ((i : RequestId) → heard grp i from ≡ Some n → i ≡ id) → Sound me (lifted (with_proposal grp id from n) id)
sound_proposal me grp id from n sound other single = record {
  apart = λ i j h m e d. elim (cases_Bool (same_id i id && h == from)) [
    | inl p ↦ elim (cases_Bool (same_id j id && h == from)) [
      | inl q ↦ same_id-true i id (and_parts _ _ p).0 ∙ sym (same_id-true j id (and_parts _ _ q).0)
      | inr q ↦ same_id-true i id (and_parts _ _ p).0
          ∙ sym (another j h m (eqb-true h from (and_parts _ _ p).1) (told_new grp id from n i h m e p) (told_old grp id from n j h m d q))
    ]
    | inr p ↦ elim (cases_Bool (same_id j id && h == from)) [
      | inl q ↦ another i h m (eqb-true h from (and_parts _ _ q).1) (told_new grp id from n j h m d q) (told_old grp id from n i h m e p)
          ∙ sym (same_id-true j id (and_parts _ _ q).0)
      | inr q ↦ sound.apart i j h m (told_old grp id from n i h m e p) (told_old grp id from n j h m d q)
    ]
  ];
  own = λ i m e.
      let before = sound.own i m (sym (own_stays me grp id from n other i) ∙ e) in
      let lifts = lift_grows grp.clock (final_of (with_proposal grp id from n) id (get grp.started id)) in
      (omega arith, before.1);
  started = λ i gs e. let before = sound.started i gs e in
      (subst (λ o. IsSome o) (sym (own_stays me grp id from n other i)) before.0, before.1);
  tops = tops_lifted me grp (with_proposal grp id from n) id sound (but_proposal grp id from n);
}
  where
    another : (i : RequestId) (h m : ℕ) → h ≡ from → n ≡ m → heard grp i h ≡ Some m → i ≡ id
    another i h m at is e = single i (subst (λ g. heard grp i g ≡ Some n) at (e ∙ ap Some (sym is)))

-- ---- what isn't settled lets nothing go

-- where the packet's request isn't settled, nothing more may go
pub stuck_proposal : (me : ℕ) (grp : GroupState) (id : RequestId) (from n : ℕ) → Lawful me grp → from ≢ me →
    final_of (with_proposal grp id from n) id (get grp.started id) ≡ None → (d : Delivered)
    → MayGo me (lifted (with_proposal grp id from n) id) d → ⊥
stuck_proposal me grp id from n lawful other unsettled_one d may = elim (cases_Bool (same_id d.id id)) [
  | inl p ↦ None≢Some d.stamp (sym unsettled_one
      ∙ ap (λ i. final_of (with_proposal grp id from n) i (get grp.started i)) (sym (same_id-true d.id id p))
      ∙ ap (final_of (with_proposal grp id from n) d.id) may.started ∙ may.stamp)
  | inr p ↦ lawful.stuck d (record {
    started = may.started;
    stamp = sym (same_final (with_proposal grp id from n) grp d.id d.groups (λ g. but.heard d.id g p)) ∙ may.stamp;
    below = λ u gs there unsettled. subst (λ o. stamp_lt d.stamp (record { clock = or_zero o; group = me }) ≡ true)
        (own_stays me grp id from n other u)
        (may.below u gs there (elim (cases_Bool (same_id u id)) [
          | inl q ↦ ap (final_of (with_proposal grp id from n) u) (sym there)
              ∙ ap (λ i. final_of (with_proposal grp id from n) i (get grp.started i)) (same_id-true u id q) ∙ unsettled_one
          | inr q ↦ same_final (with_proposal grp id from n) grp u gs (λ g. but.heard u g q) ∙ unsettled
        ]));
  })
]
  where
    but : SameBut id grp (with_proposal grp id from n)
    but = but_proposal grp id from n

pub delivers_none : (me : ℕ) (grp : GroupState) → ((d : Delivered) → MayGo me grp d → ⊥) → Delivers me grp []
delivers_none me grp none = record { ascending = tt; only = λ d there. absurd there; all = λ d may. absurd (none d may) }

pub without_none : (grp : GroupState) → without grp [] ≡ grp
without_none grp = same_state (without grp []) grp refl refl (λ i. started-without grp [] i) (λ i g. heard-without grp [] i g)

-- ---- a Proposal that the group has already

pub same_proposal : (grp : GroupState) (id : RequestId) (from n : ℕ) → heard grp id from ≡ Some n → with_proposal grp id from n ≡ grp
same_proposal grp id from n e = same_state (with_proposal grp id from n) grp refl refl (λ i. refl)
    (λ i g. heard-with_proposal grp id from n i g ∙ elim (cases_Bool (same_id i id && g == from)) [
      | inl p ↦ ap (λ b. cond b (Some n) (heard grp i g)) p ∙ sym e
          ∙ ap (λ j. heard grp j from) (sym (same_id-true i id (and_parts _ _ p).0))
          ∙ ap (λ h. heard grp i h) (sym (eqb-true g from (and_parts _ _ p).1))
      | inr p ↦ ap (λ b. cond b (Some n) (heard grp i g)) p
    ])

lift_none : (c : ℕ) (o : Option Stamp) → ((s : Stamp) → o ≡ Some s → s.clock ≤ c) → lift c o ≡ c
lift_none c None top = refl
lift_none c (Some s) top = let low = top s refl in omega arith

pub same_lifted : (me : ℕ) (grp : GroupState) (id : RequestId) → Sound me grp → lifted grp id ≡ grp
same_lifted me grp id sound =
    let clocks = lift_none grp.clock (final_of grp id (get grp.started id)) (known (get grp.started id) refl) in
    λ k. record grp { clock = clocks k }
  where
    known : (o : Option (List ℕ)) → get grp.started id ≡ o → (s : Stamp) → final_of grp id o ≡ Some s → s.clock ≤ grp.clock
    known None e s f = absurd (None≢Some s f)
    known (Some gs) e s f = sound.tops id gs s e f

-- ---- what is delivered leaves

pub id_there : (ds : List Delivered) (d : Delivered) → In d ds → has_id ds d.id ≡ true
id_there [] d there = absurd there
id_there (e ∷ es) d (inl same) = ap (λ b. b || has_id es d.id) (eq-same_id e.id d.id (ap (λ x. x.id) (sym same)))
id_there (e ∷ es) d (inr there) = ap (λ b. same_id e.id d.id || b) (id_there es d there) ∙ or_true (same_id e.id d.id)
  where
    or_true : (b : Bool) → (b || true) ≡ true
    or_true true = refl
    or_true false = refl

pub record Named (ds : List Delivered) (i : RequestId) : Type 0 where
  pub one : Delivered
  pub there : In one ds
  pub id : one.id ≡ i

pub named : (ds : List Delivered) (i : RequestId) → has_id ds i ≡ true → Named ds i
named [] i h = absurd (both_ways _ refl h)
named (d ∷ ds) i h = elim (or_cases (same_id d.id i) (has_id ds i) h) [
  | inl e ↦ record { one = d; there = inl refl; id = same_id-true d.id i e }
  | inr e ↦ let rest = named ds i e in record { one = rest.one; there = inr rest.there; id = rest.id }
]

pub kept_started : (grp : GroupState) (ds : List Delivered) (i : RequestId) (gs : List ℕ) → get (without grp ds).started i ≡ Some gs
    → (has_id ds i ≡ false) × (get grp.started i ≡ Some gs)
kept_started grp ds i gs e = elim (cases_Bool (has_id ds i)) [
  | inl p ↦ absurd (None≢Some gs (ap (λ b. cond b None (get grp.started i)) (sym p) ∙ sym (started-without grp ds i) ∙ e))
  | inr p ↦ (p, ap (λ b. cond b None (get grp.started i)) (sym p) ∙ sym (started-without grp ds i) ∙ e)
]

pub kept_heard : (grp : GroupState) (ds : List Delivered) (i : RequestId) (g n : ℕ) → heard (without grp ds) i g ≡ Some n
    → (has_id ds i ≡ false) × (heard grp i g ≡ Some n)
kept_heard grp ds i g n e = elim (cases_Bool (has_id ds i)) [
  | inl p ↦ absurd (None≢Some n (ap (λ b. cond b None (heard grp i g)) (sym p) ∙ sym (heard-without grp ds i g) ∙ e))
  | inr p ↦ (p, ap (λ b. cond b None (heard grp i g)) (sym p) ∙ sym (heard-without grp ds i g) ∙ e)
]

pub still_heard : (grp : GroupState) (ds : List Delivered) (i : RequestId) → has_id ds i ≡ false → (g : ℕ)
    → heard (without grp ds) i g ≡ heard grp i g
still_heard grp ds i p g = heard-without grp ds i g ∙ ap (λ b. cond b None (heard grp i g)) p

pub still_started : (grp : GroupState) (ds : List Delivered) (i : RequestId) → has_id ds i ≡ false
    → get (without grp ds).started i ≡ get grp.started i
still_started grp ds i p = started-without grp ds i ∙ ap (λ b. cond b None (get grp.started i)) p

pub sound_without : (me : ℕ) (grp : GroupState) (ds : List Delivered) → Sound me grp → Sound me (without grp ds)
sound_without me grp ds sound = record {
  apart = λ i j h n e d. sound.apart i j h n (kept_heard grp ds i h n e).1 (kept_heard grp ds j h n d).1;
  own = λ i n e. let kept = kept_heard grp ds i me n e in let before = sound.own i n kept.1 in
      (before.0, subst (λ o. IsSome o) (sym (still_started grp ds i kept.0)) before.1);
  started = λ i gs e. let kept = kept_started grp ds i gs e in let before = sound.started i gs kept.1 in
      (subst (λ o. IsSome o) (sym (still_heard grp ds i kept.0 me)) before.0, before.1);
  tops = λ i gs s e f. let kept = kept_started grp ds i gs e in
      sound.tops i gs s kept.1 (sym (same_final (without grp ds) grp i gs (still_heard grp ds i kept.0)) ∙ f);
}

-- a started request that isn't settled isn't delivered
open_stays : (me : ℕ) (grp : GroupState) (ds : List Delivered) → Delivers me grp ds → (u : RequestId) (gs : List ℕ)
    → get grp.started u ≡ Some gs → final (heard grp u) gs ≡ None → has_id ds u ≡ false
open_stays me grp ds delivers u gs there unsettled_one = elim (cases_Bool (has_id ds u)) [
  | inl p ↦ let it = named ds u p in let may = delivers.only it.one it.there in
      let same : it.one.groups ≡ gs = some_same _ _ (sym may.started ∙ ap (λ i. get grp.started i) it.id ∙ there) in
      absurd (None≢Some it.one.stamp (sym unsettled_one ∙ ap (λ hs. final (heard grp u) hs) (sym same)
      ∙ ap (λ i. final (heard grp i) it.one.groups) (sym it.id) ∙ may.stamp))
  | inr p ↦ p
]

pub lawful_without : (me : ℕ) (grp : GroupState) (ds : List Delivered) → Sound me grp → Delivers me grp ds → Lawful me (without grp ds)
lawful_without me grp ds sound delivers = record {
  sound = sound_without me grp ds sound;
  stuck = λ d may.
      let kept = kept_started grp ds d.id d.groups may.started in
      let before : MayGo me grp d = record {
        started = kept.1;
        stamp = sym (same_final (without grp ds) grp d.id d.groups (still_heard grp ds d.id kept.0)) ∙ may.stamp;
        below = λ u gs there unsettled_one.
            let stays = open_stays me grp ds delivers u gs there unsettled_one in
            subst (λ o. stamp_lt d.stamp (record { clock = or_zero o; group = me }) ≡ true) (still_heard grp ds u stays me)
            (may.below u gs (still_started grp ds u stays ∙ there) (same_final (without grp ds) grp u gs (still_heard grp ds u stays)
            ∙ unsettled_one));
      } in
      both_ways _ kept.0 (id_there ds d (delivers.all d before));
}

-- ---- a clock that is raised

pub kept_raised : (me c n : ℕ) (es : List Entry) (ps : FinMap source_cmp ℕ) → c ≤ n → IsKept me c es ps → IsKept me n es ps
kept_raised me c n es ps more kept =
    let sound = kept.lawful.sound in record {
      placed = kept.placed;
      lawful = record {
        sound = record {
          apart = sound.apart;
          own = λ i m e. let it = sound.own i m e in (omega (arith, more, it.0), it.1);
          started = sound.started;
          tops = λ i gs s e f. let it = sound.tops i gs s e f in omega (arith, more, it);
        };
        stuck = λ d may. kept.lawful.stuck d (record { started = may.started; stamp = may.stamp; below = may.below });
      };
    }
