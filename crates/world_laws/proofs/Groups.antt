-- One group: what is known of it survives what the others do, and each packet that comes to it.
use Rattle.std.proofs.Common.{◌≡◌, ℕ, ◌≤◌, ◌==◌, ◌&&◌, Bool, true, false, cond, List, ◌++◌, ◌⊎◌, ◌↔◌, inl, inr, Option}
use Rattle.std.proofs.Common.{Some, None, IsSome, refl, sym, ap, ◌∙◌, subst, arith, eqb-true}
use Rattle.std.proofs.lemmas.Bool.{cases_Bool, and_parts}
use Rattle.std.specs.FinMap.{get}
use Rattle.groups.specs.GroupSet.{has}
use Rattle.skeen_core.proofs.Ahead.{Ahead, ahead_start, ahead_proposal, ahead_delivers, ascending_append, below_now}
use Rattle.skeen_core.proofs.Finite.{started-with_start, heard-with_start, heard-with_proposal}
use Rattle.groups.proofs.Ids.{same_id-true}
use Rattle.skeen_core.proofs.Lawful.{lift_grows, sound_start, sound_proposal, lawful_without, kept_heard, kept_started}
use Rattle.skeen_core.proofs.Lawful.{some_is, named, still_started, stays_started}
use Rattle.skeen_core.proofs.Reaching.{going_reaching}
use Rattle.groups.proofs.Lists.{In-left, In-right, In-append}
use Rattle.groups.proofs.Stamps.{final_within}
use Rattle.skeen_core.specs.Group.{GroupState, heard, is_past, reaching, next_clock, with_start, with_proposal, final_of, lifted, Ascending}
use Rattle.skeen_core.specs.Group.{Delivers, without, has_id}
use Rattle.skeen_core.specs.Lawful.{Sound}
use Rattle.skeen_core.specs.Runs.{HasReached}
use Rattle.groups.specs.Order.{In}
use Rattle.groups.specs.Request.{same_id}
use Rattle.skeen_core.specs.declared.packet.Delivered.{Delivered}
use Rattle.groups.specs.declared.request.RequestId.{RequestId}
use Rattle.world.specs.Steps.{hears}
use Rattle.world.specs.World.{Request, Proposals}
use Rattle.world_laws.specs.Good.{Asked, Addressed, Known, Among, IsOut, GroupGood}
use Rattle.std.proofs.lemmas.Bool.{cond-true, cond-false}
use Rattle.groups.proofs.Options.{some_same}

-- ---- more is submitted and proposed

-- what was asked before is asked now
abbrev pub AskedMore : Asked → Asked → Type 0
AskedMore asked asked' = (i : RequestId) (q : Request) → asked i ≡ Some q → asked' i ≡ Some q

pub addressed_more : (asked asked' : Asked) (i : RequestId) (gs : List ℕ) → AskedMore asked asked' → Addressed asked i gs →
    Addressed asked' i gs
addressed_more asked asked' i gs more a = (a.0, more i a.0 a.1, a.2)

pub known_more : (asked asked' : Asked) (proposed proposed' : Proposals) (d : Delivered) → AskedMore asked asked' →
    Among proposed proposed' → Known asked proposed d → Known asked' proposed' d
known_more asked asked' proposed proposed' d more among known = record {
  stamp = final_within (proposed d.id) (proposed' d.id) d.groups d.stamp (λ g n e. among d.id g n e) known.stamp;
  named = addressed_more asked asked' d.id d.groups more known.named;
}

-- a group that doesn't move, while others propose
pub group_grows : (asked asked' : Asked) (proposed proposed' : Proposals) (me : ℕ) (grp : GroupState) (log : List Delivered) →
    AskedMore asked asked' → Among proposed proposed' →
    ((i : RequestId) (n : ℕ) → proposed' i me ≡ Some n → proposed i me ≡ Some n) → GroupGood asked proposed me grp log →
    GroupGood asked' proposed' me grp log
group_grows asked asked' proposed proposed' me grp log more among mine good = record {
  going = good.going;
  heard = λ i h n e. among i h n (good.heard i h n e);
  clock = λ i n e. good.clock i n (mine i n e);
  apart = λ i j n e d. good.apart i j n (mine i n e) (mine j n d);
  started = λ i gs e. addressed_more asked asked' i gs more (good.started i gs e);
  past = good.past;
  begun = λ i n e. good.begun i n (mine i n e);
  known = λ d there. known_more asked asked' proposed proposed' d more among (good.known d there);
  member = good.member;
}

-- ---- once a packet is added, before anything is delivered

pub record MidGood (asked : Asked) (proposed : Proposals) (me : ℕ) (grp : GroupState) (log : List Delivered) : Type 0 where
  pub sound : Sound me grp
  pub ahead : Ahead me grp log
  pub ascending : Ascending log
  pub heard : Among (heard grp) proposed
  pub clock : (i : RequestId) (n : ℕ) → proposed i me ≡ Some n → n ≤ grp.clock
  pub apart : (i j : RequestId) (n : ℕ) → proposed i me ≡ Some n → proposed j me ≡ Some n → i ≡ j
  pub started : (i : RequestId) (gs : List ℕ) → get grp.started i ≡ Some gs → Addressed asked i gs
  pub begun : (i : RequestId) (n : ℕ) → proposed i me ≡ Some n → IsSome (get grp.started i) ⊎ IsOut log i
  pub known : (d : Delivered) → In d log → Known asked proposed d
  pub member : (d : Delivered) → In d log → has d.groups me ≡ true

-- the new value or an old one
pub by_test : {X : Type 0} (b : Bool) (x : X) (o : Option X) (y : X) (P : Type 0) → cond b (Some x) o ≡ Some y → (b ≡ true → x ≡ y → P) →
    (b ≡ false → o ≡ Some y → P) → P
by_test true x o y P e new old = new refl (some_same x y e)
by_test false x o y P e new old = old refl e

pub under_cond : {X : Type 0} (b : Bool) (o : Option X) (x : X) → cond b None o ≡ Some x → o ≡ Some x
under_cond true o x e = absurd (cc)
under_cond false o x e = e

-- what is proposed now is proposed with one more, which was not there
pub among_hears : (proposed : Proposals) (id : RequestId) (from n : ℕ) → proposed id from ≡ None → Among proposed (hears proposed id from n)
among_hears proposed id from n none i h m e = elim (cases_Bool (same_id i id && h == from)) [
  | inl p ↦
      let parts = and_parts (same_id i id) (h == from) p in
      let it : proposed id from ≡ Some m = subst (λ j. proposed j from ≡ Some m) (same_id-true i id parts.0)
      (subst (λ g. proposed i g ≡ Some m) (eqb-true h from parts.1) e) in
      absurd (cc)
  | inr p ↦ cond-false _ (Some n) (proposed i h) p ∙ e
]

pub mid_start : (asked : Asked) (proposed : Proposals) (me : ℕ) (grp : GroupState) (log : List Delivered) (id : RequestId) (floor : ℕ)
    (groups : List ℕ) → GroupGood asked proposed me grp log →
    Addressed asked id groups → has groups me ≡ true → proposed id me ≡ None →
    MidGood asked (hears proposed id me (next_clock grp floor)) me (lifted (with_start me grp id floor groups) id) log
mid_start asked proposed me grp log id floor groups good named member none = record {
  sound = sound_start me grp id floor groups good.going.lawful.sound member;
  ahead = ahead_start me grp id floor groups log good.going.lawful.sound member good.going.ahead;
  ascending = good.going.ascending;
  heard = λ i h n e. by_test (same_id i id && h == me) new (heard grp i h) n (hears proposed id me new i h ≡ Some n)
      (sym (heard-with_start me grp id floor groups i h) ∙ e)
      (λ p same. cond-true _ (Some new) (proposed i h) p ∙ ap Some same)
      (λ p old. cond-false _ (Some new) (proposed i h) p ∙ good.heard i h n old);
  clock = λ i n e. by_test (same_id i id && me == me) new (proposed i me) n (n ≤ (lifted (with_start me grp id floor groups) id).clock) e
      (λ p same. omega (arith, lifts))
      (λ p old. let before = good.clock i n old in omega (arith, lifts));
  apart = λ i j n e d. by_test (same_id i id && me == me) new (proposed i me) n (i ≡ j) e
      (λ p same. by_test (same_id j id && me == me) new (proposed j me) n (i ≡ j) d
      (λ q again. same_id-true i id (and_parts _ _ p).0 ∙ sym (same_id-true j id (and_parts _ _ q).0))
      (λ q old. let before = good.clock j n old in absurd (omega arith)))
      (λ p old. by_test (same_id j id && me == me) new (proposed j me) n (i ≡ j) d
      (λ q same. let before = good.clock i n old in absurd (omega arith))
      (λ q old'. good.apart i j n old old'));
  started = λ i gs e. by_test (same_id i id) groups (get grp.started i) gs (Addressed asked i gs)
      (sym (started-with_start me grp id floor groups i) ∙ e)
      (λ p same. subst (λ hs. Addressed asked i hs) same (subst (λ j. Addressed asked j groups) (sym (same_id-true i id p)) named))
      (λ p old. good.started i gs old);
  begun = λ i n e. by_test (same_id i id && me == me) new (proposed i me) n
      (IsSome (get (with_start me grp id floor groups).started i) ⊎ IsOut log i) e
      (λ p same. inl (some_is _ groups (started-with_start me grp id floor groups i
      ∙ cond-true (same_id i id) (Some groups) (get grp.started i) (and_parts (same_id i id) (me == me) p).0)))
      (λ p old. elim (good.begun i n old) [
        | inl there ↦ inl (stays_started me grp id floor groups i there)
        | inr out ↦ inr out
      ]);
  known = λ d there. known_more asked asked proposed (hears proposed id me new) d (λ i q e. e) (among_hears proposed id me new none)
      (good.known d there);
  member = good.member;
}
  where
    new : ℕ
    new = next_clock grp floor

    lifts : next_clock grp floor ≤ (lifted (with_start me grp id floor groups) id).clock
    lifts = lift_grows (next_clock grp floor)
        (final_of (with_start me grp id floor groups) id (get (with_start me grp id floor groups).started id))

pub mid_proposal : (asked : Asked) (proposed : Proposals) (me : ℕ) (grp : GroupState) (log : List Delivered) (id : RequestId)
    (from n : ℕ) → GroupGood asked proposed me grp log →
    (from ≡ me → ⊥) → proposed id from ≡ Some n → ((i : RequestId) → proposed i from ≡ Some n → i ≡ id) →
    MidGood asked proposed me (lifted (with_proposal grp id from n) id) log
mid_proposal asked proposed me grp log id from n good other told single = record {
  sound = sound_proposal me grp id from n good.going.lawful.sound other one;
  ahead = ahead_proposal me grp id from n log good.going.lawful.sound other one agrees good.going.ahead;
  ascending = good.going.ascending;
  heard = λ i h m e. by_test (same_id i id && h == from) n (heard grp i h) m (proposed i h ≡ Some m)
      (sym (heard-with_proposal grp id from n i h) ∙ e)
      (λ p same. let parts = and_parts (same_id i id) (h == from) p in
      subst (λ k. proposed i h ≡ Some k) same (subst (λ g. proposed i g ≡ Some n) (sym (eqb-true h from parts.1))
      (subst (λ j. proposed j from ≡ Some n) (sym (same_id-true i id parts.0)) told)))
      (λ p old. good.heard i h m old);
  clock = λ i m e. let before = good.clock i m e in
      omega (arith, lift_grows grp.clock (final_of (with_proposal grp id from n) id (get grp.started id)));
  apart = good.apart;
  started = good.started;
  begun = good.begun;
  known = good.known;
  member = good.member;
}
  where
    one : (i : RequestId) → heard grp i from ≡ Some n → i ≡ id
    one i e = single i (good.heard i from n e)

    agrees : (m : ℕ) → heard grp id from ≡ Some m → m ≡ n
    agrees m e = some_same m n (sym (good.heard id from m e) ∙ told)

-- ---- what is delivered

pub out_left : (xs ys : List Delivered) (i : RequestId) → IsOut xs i → IsOut (xs ++ ys) i
out_left xs ys i o = (o.0, In-left o.0 xs ys o.1, o.2)

pub out_right : (xs ys : List Delivered) (i : RequestId) → IsOut ys i → IsOut (xs ++ ys) i
out_right xs ys i o = (o.0, In-right o.0 xs ys o.1, o.2)

pub out_named : (ds : List Delivered) (i : RequestId) → has_id ds i ≡ true → IsOut ds i
out_named ds i e = let n = named ds i e in (n.one, n.there, n.id)

-- the group once it has delivered these
abbrev pub having_delivered : GroupState → List Delivered → GroupState
having_delivered grp ds = reaching (without grp ds) ds

-- it has reached what it has delivered
abbrev pub Reached : GroupState → List Delivered → Type 0
Reached grp log = (i : RequestId) → (is_past grp i ≡ true) ↔ HasReached log i

pub delivers_good : (asked : Asked) (proposed : Proposals) (me : ℕ) (grp : GroupState) (log ds : List Delivered) →
    MidGood asked proposed me grp log → Delivers me grp ds → Reached (having_delivered grp ds) (log ++ ds) →
    GroupGood asked proposed me (having_delivered grp ds) (log ++ ds)
delivers_good asked proposed me grp log ds mid delivers reached = record {
  going = going_reaching me (without grp ds) (log ++ ds) ds (record {
    lawful = lawful_without me grp ds mid.sound delivers;
    ahead = ahead_delivers me grp log ds mid.sound mid.ahead delivers;
    ascending = ascending_append log ds mid.ascending delivers.ascending (below_now me grp log ds mid.ahead delivers);
  });
  heard = λ i h n e. mid.heard i h n (kept_heard grp ds i h n e).1;
  clock = mid.clock;
  apart = mid.apart;
  started = λ i gs e. mid.started i gs (kept_started grp ds i gs e).1;
  past = reached;
  begun = λ i n e. elim (mid.begun i n e) [
    | inr out ↦ inr (out_left log ds i out)
    | inl there ↦ elim (cases_Bool (has_id ds i)) [
      | inl gone ↦ inr (out_right log ds i (out_named ds i gone))
      | inr stays ↦ inl (subst (λ o. IsSome o) (sym (still_started grp ds i stays)) there)
    ]
  ];
  known = λ d there. elim (In-append d log ds there) [
    | inl before ↦ mid.known d before
    | inr now ↦ let may = delivers.only d now in record {
      stamp = final_within (heard grp d.id) (proposed d.id) d.groups d.stamp (λ g n e. mid.heard d.id g n e) may.stamp;
      named = mid.started d.id d.groups may.started;
    }
  ];
  member = λ d there. elim (In-append d log ds there) [
    | inl before ↦ mid.member d before
    | inr now ↦ let may = delivers.only d now in (mid.sound.started d.id d.groups may.started).1
  ];
}
