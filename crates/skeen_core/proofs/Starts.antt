-- A Start: where the new request stands, and what the group has then.
use Rattle.std.proofs.Common.{◌≡◌, ℕ, suc, ◌<◌, ◌≤◌, ◌==◌, ◌&&◌, ◌||◌, max, true, false, cond, not, List, [], ◌∷◌, Option, Some, None}
use Rattle.std.proofs.Common.{IsSome, is_some, ◌+◌, length, refl, sym, ap, ◌∙◌, subst, arith, inl, inr, ◌⊎◌, eq-eqb, eqb-true}
use Rattle.std.proofs.lemmas.Bool.{both_ways, cases_Bool}
use Rattle.std.specs.BTreeMap.{insert_entry}
use Rattle.std.specs.FinMap.{FinMap, empty, get, insert, retain_keys, get-retain_keys, same_map}
use Rattle.std.specs.List.Sorted.{IsStrictlySortedBy}
use Rattle.std.specs.Map.{keys_of}
use Rattle.std.specs.Ordering.{match_ordering}
use Rattle.groups.specs.GroupSet.{has, IsAscending}
use Rattle.groups.specs.declared.request.RequestId.{RequestId}
use Rattle.groups.specs.declared.stamp.Stamp.{Stamp}
use Rattle.groups.specs.Order.{In}
use Rattle.groups.specs.Request.{same_id, Source, source_cmp}
use Rattle.groups.specs.Stamp.{stamp_lt, final, place_by}
use Rattle.groups.proofs.Ids.{source_total, source_antisym, same_id-refl, same_id-sym}
use Rattle.groups.proofs.Stamps.{lt_irrefl, lt_from_clocks, clocks_le, final_above}
use Rattle.skeen_core.specs.Group.{GroupView, or_zero, next_clock, with_start, final_of, lift, lifted}
use Rattle.skeen_core.specs.Group.{tell, ReceivesStart, IsReceipt}
use Rattle.skeen_core.specs.Heard.{with_heard, missing}
use Rattle.skeen_core.specs.Kept.{state_of, groups_in, StandsAt, ArePlaced, IsKept}
use Rattle.skeen_core.specs.Pending.{stamp_cmp, Entry, at, delivered, first_is_settled, front, forgotten, Moves}
use Rattle.skeen_core.specs.declared.packet.Body.TheVariants.{Start}
use Rattle.skeen_core.specs.declared.packet.Delivered.{Delivered}
use Rattle.skeen_core.specs.declared.packet.Packet.{Packet}
use Rattle.skeen_core.specs.declared.pending.Pending.{Pending}
use Rattle.skeen_core.proofs.Changes.{Replaces, replaces_none, clocks, clocks_same, clocks_other, heard-insert, placed_replaced}
use Rattle.skeen_core.proofs.Changes.{starts_more}
use Rattle.skeen_core.proofs.Finite.{started-with_start, turned}
use Rattle.skeen_core.proofs.Fronts.{get_forgotten, finds, none_finds, started-state_of}
use Rattle.skeen_core.proofs.Lawful.{sound_start}
use Rattle.skeen_core.proofs.Missing.{none_missing, open_missing}
use Rattle.skeen_core.proofs.Places.{gt_greater, in_place}
use Rattle.skeen_core.proofs.Receipts.{Comes, comes_front, comes_none, stuck_front, kept_front}

-- a Start that the group doesn't know yet: o is the final stamp with the own proposal, m what is missing then
pub record Begun (me c : ℕ) (es : List Entry) (ps : FinMap source_cmp ℕ) (id : RequestId) (floor : ℕ) (groups : List ℕ) (n : ℕ)
    (o : Option Stamp) (m : ℕ) : Type 0 where
  pub kept : IsKept me c es ps
  pub none : clocks ps id me ≡ None
  pub member : has groups me ≡ true
  pub clock : n ≡ suc (max c floor)
  pub ascending : IsAscending groups
  pub final : o ≡ final (with_heard (record { from = me; clock = n }) (clocks ps id)) groups
  pub missing : m ≡ missing (with_heard (record { from = me; clock = n }) (clocks ps id)) groups

abbrev pub own : ℕ → ℕ → Stamp
own me n = record { clock = n; group = me }

abbrev pub begun : RequestId → List ℕ → ℕ → Pending
begun id groups m = record { id = id; groups = groups; missing = m }

abbrev pub with_own : FinMap source_cmp ℕ → RequestId → ℕ → ℕ → FinMap source_cmp ℕ
with_own ps id me n = insert ps (record { id = id; from = me }) n

-- ---- it stands behind all others

-- each place is at most the clock
low : (me c : ℕ) (es : List Entry) (ps : FinMap source_cmp ℕ) → IsKept me c es ps → (e : Entry) → In e es → e.0.clock ≤ c
low me c es ps kept e there = by_final (final (clocks ps e.1.id) e.1.groups) refl
  where
    there_is : get (state_of c es ps).started e.1.id ≡ Some e.1.groups
    there_is = started-state_of c es ps e.1.id ∙ finds es e kept.placed.once there

    own_low : (q : Option ℕ) → clocks ps e.1.id me ≡ q → IsSome q → or_zero q ≤ c
    own_low None e some = absurd (both_ways _ refl some)
    own_low (Some k) e some = (kept.lawful.sound.own _ k e).0

    by_final : (o : Option Stamp) → final (clocks ps e.1.id) e.1.groups ≡ o → e.0.clock ≤ c
    by_final None is =
        let place = ap (λ (s : Stamp). s.clock) ((kept.placed.stand e there).place
        ∙ ap (λ o. place_by o (own me (or_zero (clocks ps e.1.id me)))) is) in
        let k = own_low (clocks ps e.1.id me) refl (kept.lawful.sound.started e.1.id e.1.groups there_is).0 in omega arith
    by_final (Some s) is =
        let place = ap (λ (t : Stamp). t.clock) ((kept.placed.stand e there).place
        ∙ ap (λ o. place_by o (own me (or_zero (clocks ps e.1.id me)))) is) in
        let k = kept.lawful.sound.tops e.1.id e.1.groups s there_is is in omega arith

module _ {me c : ℕ} {es : List Entry} {ps : FinMap source_cmp ℕ} {id : RequestId} {floor : ℕ} {groups : List ℕ} {n : ℕ} {o : Option Stamp}
    {m : ℕ} where
  -- its final stamp, if it is known, is at least its own
  high : Begun me c es ps id floor groups n o m → n ≤ (place_by o (own me n)).clock
  high b = by_final o refl
    where
      by_final : (q : Option Stamp) → o ≡ q → n ≤ (place_by q (own me n)).clock
      by_final None e = omega arith
      by_final (Some s) e =
          let p = final_above (with_heard (record { from = me; clock = n }) (clocks ps id)) groups s me (sym b.final ∙ e) b.member in
          let mine : p.clock ≡ n = same p.clock (sym p.heard ∙ ap (λ t. cond t (Some n) (clocks ps id me)) (eq-eqb me me refl)) in
          let above = clocks_le (own me p.clock) s p.within in omega arith
        where
          same : (k : ℕ) → Some k ≡ Some n → k ≡ n
          same k e = cc

  pub above_all : Begun me c es ps id floor groups n o m → (e : Entry) → In e es → stamp_lt e.0 (place_by o (own me n)) ≡ true
  above_all b e there =
      let k = low me c es ps b.kept e there in let h = high b in let is = b.clock in
      lt_from_clocks e.0 (place_by o (own me n)) (omega arith)

  pub begins_free : Begun me c es ps id floor groups n o m → at es (place_by o (own me n)) ≡ None
  begins_free b = by_at (at es (place_by o (own me n))) refl
    where
      by_at : (q : Option Pending) → at es (place_by o (own me n)) ≡ q → q ≡ None
      by_at None e = refl
      by_at (Some p) e = absurd (both_ways _ (lt_irrefl (place_by o (own me n)))
          (above_all b (place_by o (own me n), p) (in_place es (place_by o (own me n)) p e)))

  -- it hasn't started
  pub not_started : Begun me c es ps id floor groups n o m → groups_in es id ≡ None
  not_started b = by_start (groups_in es id) refl
    where
      not_some : (q : Option ℕ) → q ≡ None → IsSome q → ⊥
      not_some q e h = cc

      by_start : (q : Option (List ℕ)) → groups_in es id ≡ q → q ≡ None
      by_start None e = refl
      by_start (Some gs) e =
          absurd (not_some (clocks ps id me) b.none (b.kept.lawful.sound.started id gs (started-state_of c es ps id ∙ e)).0)

  -- ---- the state with it

  pub begins_placed : Begun me c es ps id floor groups n o m → (es' : List Entry)
      → Replaces (place_by o (own me n), begun id groups m) es es'
      → ArePlaced me es' (with_own ps id me n)
  begins_placed b es' replaced = placed_replaced me (place_by o (own me n), begun id groups m) es es' ps
      (with_own ps id me n) b.kept.placed replaced
      (clocks_other ps id me n)
      (subst (λ (f : ℕ → Option ℕ). StandsAt me f (place_by o (own me n), begun id groups m))
      (sym (clocks_same ps id (record { from = me; clock = n }))) (record {
        ascending = b.ascending;
        missing = b.missing;
        place = ap (λ q. place_by q (own me n)) b.final
            ∙ ap (λ k. place_by (final (with_heard (record { from = me; clock = n }) (clocks ps id)) groups) (own me (or_zero k)))
            (sym (ap (λ t. cond t (Some n) (clocks ps id me)) (eq-eqb me me refl)));
      }))

  pub begins_shows : Begun me c es ps id floor groups n o m → (es' : List Entry)
      → Replaces (place_by o (own me n), begun id groups m) es es'
      → ArePlaced me es' (with_own ps id me n)
      → lifted (with_start me (state_of c es ps) id floor groups) id ≡ state_of (lift n o) es' (with_own ps id me n)
  begins_shows b es' replaced placed =
      let grp = state_of c es ps in
      let proposals : (with_start me grp id floor groups).proposals ≡ with_own ps id me n = ap (with_own ps id me) (sym b.clock) in
      let known : get (with_start me grp id floor groups).started id ≡ Some groups =
      started-with_start me grp id floor groups id ∙ ap (λ t. cond t (Some groups) (get grp.started id)) (same_id-refl id) in
      let stamp : final_of (with_start me grp id floor groups) id (get (with_start me grp id floor groups).started id) ≡ o =
      ap (final_of (with_start me grp id floor groups) id) known ∙ ap (λ qs. final (clocks qs id) groups) proposals
      ∙ ap (λ (f : ℕ → Option ℕ). final f groups) (clocks_same ps id (record { from = me; clock = n })) ∙ sym b.final in
      let clock : lift (next_clock grp floor) (final_of (with_start me grp id floor groups) id
      (get (with_start me grp id floor groups).started id))
      ≡ lift n o = ap (λ k. lift k (final_of (with_start me grp id floor groups) id (get (with_start me grp id floor groups).started id)))
      (sym b.clock)
      ∙ ap (lift n) stamp in
      let started = sym (starts_more me c (place_by o (own me n), begun id groups m) es es' ps
      (with_own ps id me n) b.kept.placed.once placed.once replaced) in
      λ k. record { clock = clock k; started = started k; proposals = proposals k; reached = empty }

  -- ---- it waits, or another one is before it

  first_stays : Begun me c es ps id floor groups n o m → (es' : List Entry) → (fs : List Entry) → es ≡ fs
      → es' ≡ insert_entry stamp_cmp fs (place_by o (own me n)) (begun id groups m) → (o ≡ None) ⊎ (0 < length fs) → front es' ≡ []
  first_stays b es' [] e made waits = ap front made ∙ ap (λ t. cond t (delivered (place_by o (own me n), begun id groups m) ∷ []) [])
      (still waits)
    where
      still : (o ≡ None) ⊎ (0 < length {A = Entry} []) → (m == 0) ≡ false
      still (inl none) = elim (cases_Bool (m == 0)) [
        | inl z ↦ absurd (open_missing (with_heard (record { from = me; clock = n }) (clocks ps id)) groups (sym b.final ∙ none)
            (sym b.missing ∙ eqb-true m 0 z))
        | inr z ↦ z
      ]
      still (inr more) = absurd (omega arith)
  first_stays b es' (x ∷ xs) e made waits =
      let p = begun id groups m in
      let t = place_by o (own me n) in
      let greater = gt_greater x.0 t (above_all b x (subst (λ l. In x l) (sym e) (inl refl))) in
      let stands : first_is_settled (x ∷ xs) ≡ false = ap first_is_settled (sym e) ∙ kept_front me c es ps b.kept in
      ap front made ∙ ap (λ r. front (match_ordering r ((t, p) ∷ x ∷ xs) ((x.0, p) ∷ xs) (x ∷ insert_entry stamp_cmp xs t p))) greater
      ∙ ap (λ r. cond r (delivered x ∷ front (insert_entry stamp_cmp xs t p)) []) stands

  pub begins_waits : Begun me c es ps id floor groups n o m → (es' : List Entry)
      → Moves (place_by o (own me n)) (place_by o (own me n)) (begun id groups m) es es'
      → es' ≡ insert_entry stamp_cmp es (place_by o (own me n)) (begun id groups m) → (o ≡ None) ⊎ (0 < length es)
      → Comes me (lifted (with_start me (state_of c es ps) id floor groups) id) [] (lift n o) es' (with_own ps id me n)
  begins_waits b es' moves made waits =
      let replaced = replaces_none (place_by o (own me n)) (begun id groups m) es es' b.kept.placed.rise moves (begins_free b)
      (none_finds es id (not_started b)) in
      let placed = begins_placed b es' replaced in
      let shows = begins_shows b es' replaced placed in
      comes_none me (lift n o) es' (with_own ps id me n) _ shows
      (sound_start me (state_of c es ps) id floor groups b.kept.lawful.sound b.member)
      placed (stuck_front me (lift n o) es' (with_own ps id me n) _ shows placed (first_stays b es' es refl made waits))

-- ---- it is delivered at once

one_sorted : (e : Entry) → IsStrictlySortedBy stamp_cmp (keys_of (e ∷ []))
unfolding IsStrictlySortedBy
one_sorted e = (tt, tt)

-- what is forgotten of it is what was there before
nothing_kept : (ps ps' : FinMap source_cmp ℕ) (id : RequestId) (me n : ℕ) (d : Delivered) → d.id ≡ id
    → ps' ≡ retain_keys ps (λ s. not (same_id id s.id)) → ps' ≡ forgotten (d ∷ []) (with_own ps id me n)
nothing_kept ps ps' id me n d named is = same_map source_total source_antisym ps' (forgotten (d ∷ []) (with_own ps id me n)) (λ s.
    ap (λ q. get q s) is ∙ get-retain_keys ps (λ t. not (same_id id t.id)) s
    (λ t e. ap (λ (u : Source). not (same_id id u.id)) (sym (source_antisym s t e))) ∙ turned (same_id id s.id) (get ps s)
    ∙ by_id s (cases_Bool (same_id id s.id)) ∙ sym (get_forgotten (d ∷ []) (with_own ps id me n) s
    ∙ ap (λ i. cond (same_id i s.id || false) None (get (with_own ps id me n) s)) named))
  where
    by_id : (s : Source) → (same_id id s.id ≡ true) ⊎ (same_id id s.id ≡ false)
        → cond (same_id id s.id) None (get ps s) ≡ cond (same_id id s.id || false) None (get (with_own ps id me n) s)
    by_id s (inl e) = ap (λ b. cond b None (get ps s)) e ∙ sym (ap (λ b. cond (b || false) None (get (with_own ps id me n) s)) e)
    by_id s (inr e) =
        ap (λ b. cond b None (get ps s)) e
        ∙ sym (ap (λ b. cond (b || false) None (get (with_own ps id me n) s)) e ∙ heard-insert ps id me n s.id s.from
        ∙ ap (λ b. cond (b && s.from == me) (Some n) (get ps s)) (same_id-sym s.id id ∙ e))

pub begins_at_once : {me c : ℕ} {es : List Entry} {ps : FinMap source_cmp ℕ} {id : RequestId} {floor : ℕ} {groups : List ℕ} {n : ℕ}
    {o : Option Stamp} {m : ℕ} → Begun me c es ps id floor groups n o m → (s : Stamp) → o ≡ Some s → es ≡ [] → (ps' : FinMap source_cmp ℕ)
    → ps' ≡ retain_keys ps (λ s. not (same_id id s.id))
    → Comes me (lifted (with_start me (state_of c es ps) id floor groups) id) (record { id = id; stamp = s; groups = groups } ∷ [])
    (lift n o) es ps'
begins_at_once {me} {c} {es} {ps} {id} {floor} {groups} {n} {o} {m} b s is empty ps' forgets =
    let t = place_by o (own me n) in
    let p = begun id groups m in
    let replaced : Replaces (t, p) es ((t, p) ∷ []) =
    record {
      rise = one_sorted (t, p);
      there = inl refl;
      only = λ e there. elim there [ inl same ↦ inl same | inr none ↦ absurd none ];
      others = λ e there other. absurd (subst (λ l. In e l) empty there);
    } in
    let placed = begins_placed b ((t, p) ∷ []) replaced in
    let comes = comes_front me (lift n o) ((t, p) ∷ []) (with_own ps id me n) _ (begins_shows b ((t, p) ∷ []) replaced placed)
    (sound_start me (state_of c es ps) id floor groups b.kept.lawful.sound b.member) placed in
    let z : (m == 0) ≡ true = eq-eqb m 0 (b.missing ∙ none_missing (with_heard (record { from = me; clock = n }) (clocks ps id)) groups s
    (sym b.final ∙ is)) in
    let place : t ≡ s = ap (λ q. place_by q (own me n)) is in
    let one : cond (m == 0) (delivered (t, p) ∷ []) [] ≡ delivered (t, p) ∷ [] = ap (λ b. cond b (delivered (t, p) ∷ []) []) z in
    let ds : cond (m == 0) (delivered (t, p) ∷ []) [] ≡ record { id = id; stamp = s; groups = groups } ∷ [] =
    subst (λ (q : Stamp). cond (m == 0) (delivered (t, p) ∷ []) [] ≡ record { id = id; stamp = q; groups = groups } ∷ []) place one in
    let left : cond (m == 0) [] ((t, p) ∷ []) ≡ es = ap (λ b. cond b [] ((t, p) ∷ [])) z ∙ sym empty in
    let grp = lifted (with_start me (state_of c es ps) id floor groups) id in
    subst (λ qs. Comes me grp (record { id = id; stamp = s; groups = groups } ∷ []) (lift n o) es qs)
    (sym (nothing_kept ps ps' id me n (record { id = id; stamp = s; groups = groups }) refl forgets))
    (subst (λ fs. Comes me grp (record { id = id; stamp = s; groups = groups } ∷ []) (lift n o) fs
    (forgotten (record { id = id; stamp = s; groups = groups } ∷ []) (with_own ps id me n))) left
    (subst (λ l. Comes me grp l (lift n o) (cond (m == 0) [] ((t, p) ∷ [])) (forgotten l (with_own ps id me n))) ds comes))

-- ---- the receipts

abbrev pub view : ℕ → ℕ → List Entry → FinMap source_cmp ℕ → ℕ → GroupView
view me c es ps k = record { me = me; state = state_of c es ps; looks = k }

pub begins_receipt : {me c : ℕ} {es : List Entry} {ps : FinMap source_cmp ℕ} {id : RequestId} {floor : ℕ} {groups : List ℕ} {n : ℕ}
    {o : Option Stamp} {m : ℕ} → Begun me c es ps id floor groups n o m
    → (sent : List Packet) (ds : List Delivered) (c' : ℕ) (es' : List Entry)
    (ps' : FinMap source_cmp ℕ) (k k' : ℕ) → sent ≡ tell me id n groups
    → Comes me (lifted (with_start me (state_of c es ps) id floor groups) id) ds c' es' ps' → length ds ≤ 1 → length ds ≤ k'
    → k' ≤ length ds + 2
    → IsReceipt (view me c es ps k) id (Start floor groups) sent ds (view me c' es' ps' k')
begins_receipt {me} {c} {es} {ps} {id} {floor} {groups} {n} b sent ds c' es' ps' k k' told comes few least most = record {
  me = refl;
  rule = subst (λ r. ReceivesStart r me (state_of c es ps) id floor groups sent ds (state_of c' es' ps'))
      (sym (started-state_of c es ps id ∙ not_started b)) (told ∙ ap (λ j. tell me id j groups) b.clock, comes.delivering);
  few = omega arith;
  least = least;
  most = most;
}

started_is : (q : Option (List ℕ)) → IsSome q → (gs : List ℕ) × (q ≡ Some gs)
started_is None e = absurd (both_ways _ refl e)
started_is (Some gs) e = (gs, refl)

-- the group has proposed for it already
pub again_receipt : (me c : ℕ) (es : List Entry) (ps : FinMap source_cmp ℕ) (k : ℕ) (id : RequestId) (floor : ℕ) (groups : List ℕ) (n : ℕ)
    → IsKept me c es ps → clocks ps id me ≡ Some n → (sent : List Packet) (ds : List Delivered) → sent ≡ [] → ds ≡ []
    → IsReceipt (view me c es ps k) id (Start floor groups) sent ds (view me c es ps 0)
again_receipt me c es ps k id floor groups n kept own sent ds told none =
    let it = started_is (get (state_of c es ps).started id) (kept.lawful.sound.own id n own).1 in
    let long = ap (λ (l : List Delivered). length l) none in record {
      me = refl;
      rule = subst (λ r. ReceivesStart r me (state_of c es ps) id floor groups sent ds (state_of c es ps)) (sym it.1) (told, none, refl);
      few = omega arith;
      least = omega arith;
      most = omega arith;
    }

pub none_of : {X : Type 0} (q : Option X) → is_some q ≡ false → q ≡ None
none_of None e = refl
none_of (Some x) e = absurd (both_ways _ e refl)

pub some_of : {X : Type 0} (q : Option X) → is_some q ≡ true → (x : X) × (q ≡ Some x)
some_of None e = absurd (both_ways _ refl e)
some_of (Some x) e = (x, refl)
