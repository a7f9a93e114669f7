-- A Proposal: what it does to the request that waited for it, and what the group has then.
use Rattle.std.proofs.Common.{◌≡◌, ◌≢◌, ℕ, suc, ◌+◌, ◌-◌, ◌<◌, ◌≤◌, ◌==◌, ◌&&◌, max, Bool, true, false, cond}
use Rattle.std.proofs.Common.{List, [], ◌∷◌, Option, Some}
use Rattle.std.proofs.Common.{None}
use Rattle.std.proofs.Common.{IsSome, is_some, length, refl, sym, ap, ◌∙◌, subst, arith, inl, inr, ◌⊎◌, eqb-true}
use Rattle.std.proofs.lemmas.Bool.{both_ways, cases_Bool, cases_lt, and_parts}
use mir.Val.{bool_byte}
use Rattle.std.specs.BTreeMap.{insert_entry}
use Rattle.std.specs.FinMap.{FinMap, empty, get, insert}
use Rattle.std.specs.List.Sorted.{IsStrictlySortedBy}
use Rattle.std.specs.Map.{keys_of, remove_entry}
use Rattle.std.specs.Ordering.{match_ordering, is_eq}
use Rattle.std.specs.declared.cmp.Ordering.TheVariants.{Less, Equal, Greater}
use Rattle.groups.specs.GroupSet.{has}
use Rattle.groups.specs.declared.request.RequestId.{RequestId}
use Rattle.groups.specs.declared.stamp.Stamp.{Stamp}
use Rattle.groups.specs.Order.{In}
use Rattle.groups.specs.Request.{same_id, source_cmp}
use Rattle.groups.specs.Stamp.{stamp_lt, final, place_by}
use Rattle.groups.proofs.Ids.{same_id-true, eq-same_id}
use Rattle.groups.proofs.Options.{some_same}
use Rattle.groups.proofs.Stamps.{final_proposed, final_above, lt_le}
use Rattle.skeen_core.specs.Group.{heard, or_zero, with_proposal, final_of, lift, lifted, Delivering}
use Rattle.skeen_core.specs.Group.{GroupView, BodyMayCome, IsReceipt}
use Rattle.skeen_core.specs.Heard.{clock_of, with_heard, missing}
use Rattle.skeen_core.specs.Kept.{state_of, groups_in, StandsAt, ArePlaced, IsKept}
use Rattle.skeen_core.specs.Lawful.{Sound}
use Rattle.skeen_core.specs.Pending.{stamp_cmp, is_place, Entry, at, delivered, first_is_settled, front, behind, forgotten}
use Rattle.skeen_core.specs.Pending.{settled, Moves, moved, waiting, if_waits}
use Rattle.skeen_core.specs.Pending.{room_for}
use Rattle.skeen_core.specs.declared.heard.Heard.{Heard}
use Rattle.skeen_core.specs.declared.packet.Body.TheVariants.{Proposal}
use Rattle.skeen_core.specs.declared.packet.Delivered.{Delivered}
use Rattle.skeen_core.specs.declared.pending.Pending.{Pending}
use Rattle.skeen_core.proofs.Changes.{Replaces, replaces_moved, clocks, clocks_same, clocks_other, placed_replaced, starts_same}
use Rattle.skeen_core.proofs.Firsts.{past_first, moved_here, moved_past}
use Rattle.skeen_core.proofs.Fronts.{front_ends, finds, found_as, started-state_of, len-started}
use Rattle.skeen_core.proofs.Lawful.{None≢Some, sound_proposal, stuck_proposal, same_proposal, same_lifted, delivers_none, without_none}
use Rattle.skeen_core.proofs.Missing.{none_missing, some_missing, untouched, one_less}
use Rattle.skeen_core.proofs.Places.{gt_greater, in_place, same_place, is_itself, above_first, at_its_place}
use Rattle.skeen_core.proofs.Receipts.{Comes, comes_as, comes_front, comes_none, stuck_front, kept_front}
use Rattle.skeen_core.proofs.Starts.{own, view, none_of, some_of}

-- a Proposal that the group doesn't have yet
pub record Told (me c : ℕ) (es : List Entry) (ps : FinMap source_cmp ℕ) (id : RequestId) (p : Heard) : Type 0 where
  pub kept : IsKept me c es ps
  pub other : p.from ≢ me
  pub single : (i : RequestId) → clocks ps i p.from ≡ Some p.clock → i ≡ id
  pub none : clocks ps id p.from ≡ None

abbrev pub with_told : FinMap source_cmp ℕ → RequestId → Heard → FinMap source_cmp ℕ
with_told ps id p = insert ps (record { id = id; from = p.from }) p.clock

-- the request at the group's own proposal, which waits for this one
pub record Waits (me : ℕ) (es : List Entry) (ps : FinMap source_cmp ℕ) (id : RequestId) (from : ℕ) (s : Stamp) (r : Pending) : Type 0 where
  pub clock : ℕ
  pub heard : clocks ps id me ≡ Some clock
  pub place : s ≡ own me clock
  pub there : at es s ≡ Some r
  pub named : r.id ≡ id
  pub member : has r.groups from ≡ true

-- the Proposal is the last one that it waits for, and its final stamp is u
pub record Settles (me c : ℕ) (es : List Entry) (ps : FinMap source_cmp ℕ) (id : RequestId) (p : Heard) (s : Stamp) (r : Pending)
    (u : Stamp) : Type 0 where
  pub told : Told me c es ps id p
  pub waits : Waits me es ps id p.from s r
  pub final : final (with_heard p (clocks ps id)) r.groups ≡ Some u

pub waits_of : (me : ℕ) (es : List Entry) (ps : FinMap source_cmp ℕ) (id : RequestId) (from : ℕ) (s : Stamp) (r : Pending)
    → waiting me (clocks ps id me) id from es ≡ Some (s, r) → Waits me es ps id from s r
waits_of me es ps id from s r e = by_own (clocks ps id me) refl e
  where
    by_at : (n : ℕ) → clocks ps id me ≡ Some n → (o : Option Pending) → at es (own me n) ≡ o
        → if_waits (own me n) id from o ≡ Some (s, r) → Waits me es ps id from s r
    by_at n h None there is = absurd (None≢Some _ is)
    by_at n h (Some q) there is = elim (same_id q.id id && has q.groups from) as (λ b. (same_id q.id id && has q.groups from) ≡ b
        → cond {A = Option Entry} b (Some (own me n, q)) None ≡ Some (s, r) → Waits me es ps id from s r) [
          | true ↦ λ t w.
              let parts = and_parts (same_id q.id id) (has q.groups from) t in
              let same : (own me n, q) ≡ (s, r) = some_same _ _ w in
              let place : own me n ≡ s = ap (λ (x : Entry). x.0) same in
              let value : q ≡ r = ap (λ (x : Entry). x.1) same in
              record {
                clock = n;
                heard = h;
                place = sym place;
                there = ap (at es) (sym place) ∙ there ∙ ap Some value;
                named = ap (λ (x : Pending). x.id) (sym value) ∙ same_id-true q.id id parts.0;
                member = ap (λ (x : Pending). has x.groups from) (sym value) ∙ parts.1;
              }
          | false ↦ λ t w. absurd (None≢Some _ w)
        ] refl is

    by_own : (o : Option ℕ) → clocks ps id me ≡ o → waiting me o id from es ≡ Some (s, r) → Waits me es ps id from s r
    by_own None h is = absurd (None≢Some _ is)
    by_own (Some n) h is = by_at n h (at es (own me n)) refl is

module _ {me c : ℕ} {es : List Entry} {ps : FinMap source_cmp ℕ} {id : RequestId} {p : Heard} where
  told_sound : Told me c es ps id p → Sound me (lifted (with_proposal (state_of c es ps) id p.from p.clock) id)
  told_sound t = sound_proposal me (state_of c es ps) id p.from p.clock t.kept.lawful.sound t.other t.single

  own_same : Told me c es ps id p → with_heard p (clocks ps id) me ≡ clocks ps id me
  own_same t = elim (cases_Bool (me == p.from)) [
    | inl e ↦ absurd (t.other (sym (eqb-true me p.from e)))
    | inr e ↦ ap (λ b. cond b (Some p.clock) (clocks ps id me)) e
  ]

  -- the state, where these entries show the same starts
  told_shows : Told me c es ps id p → (es' : List Entry) (c' : ℕ)
      → (state_of c' es' (with_told ps id p)).started ≡ (state_of c es ps).started
      → lift c (final_of (with_proposal (state_of c es ps) id p.from p.clock) id (get (state_of c es ps).started id)) ≡ c'
      → lifted (with_proposal (state_of c es ps) id p.from p.clock) id ≡ state_of c' es' (with_told ps id p)
  told_shows t es' c' starts clock = λ k. record { clock = clock k; started = sym starts k; proposals = with_told ps id p; reached = empty }

  -- what the final stamp of a started request is now
  now_final : Told me c es ps id p → (gs : List ℕ) → groups_in es id ≡ Some gs
      → final_of (with_proposal (state_of c es ps) id p.from p.clock) id (get (state_of c es ps).started id)
      ≡ final (with_heard p (clocks ps id)) gs
  now_final t gs e = ap (final_of (with_proposal (state_of c es ps) id p.from p.clock) id) (started-state_of c es ps id ∙ e)
      ∙ ap (λ (f : ℕ → Option ℕ). final f gs) (clocks_same ps id p)

  -- ---- nothing waits for it

  -- no started request of that id has this group among its own
  outside : Told me c es ps id p → waiting me (clocks ps id me) id p.from es ≡ None → (e : Entry) → In e es → e.1.id ≡ id
      → has e.1.groups p.from ≡ false
  outside t nothing e there is = elim (cases_Bool (has e.1.groups p.from)) [
    | inl h ↦ absurd (by_own h (clocks ps id me) refl)
    | inr h ↦ h
  ]
    where
      started : get (state_of c es ps).started id ≡ Some e.1.groups
      started = started-state_of c es ps id ∙ ap (groups_in es) (sym is) ∙ finds es e t.kept.placed.once there

      stands : StandsAt me (clocks ps id) e
      stands = subst (λ i. StandsAt me (clocks ps i) e) is (t.kept.placed.stand e there)

      by_own : has e.1.groups p.from ≡ true → (o : Option ℕ) → clocks ps id me ≡ o → ⊥
      by_own h None k = not_some (clocks ps id me) k (t.kept.lawful.sound.started id e.1.groups started).0
        where
          not_some : (q : Option ℕ) → q ≡ None → IsSome q → ⊥
          not_some q e h = cc
      by_own h (Some n) k = by_final (final (clocks ps id) e.1.groups) refl
        where
          by_final : (o : Option Stamp) → final (clocks ps id) e.1.groups ≡ o → ⊥
          by_final (Some s) f = let said = final_above (clocks ps id) e.1.groups s p.from f h in
              None≢Some said.clock (sym t.none ∙ said.heard)
          by_final None f =
              let place : own me n ≡ e.0 = sym (stands.place ∙ ap (λ q. place_by q (own me (or_zero (clocks ps id me)))) f
              ∙ ap (λ q. own me (or_zero q)) k) in
              let found : at es (own me n) ≡ Some e.1 = ap (at es) place ∙ at_its_place es e t.kept.placed.rise there in
              let yes : (same_id e.1.id id && has e.1.groups p.from) ≡ true =
              ap (λ b. b && has e.1.groups p.from) (eq-same_id e.1.id id is) ∙ h in
              None≢Some (own me n, e.1) (sym nothing ∙ ap (λ o. waiting me o id p.from es) k ∙ ap (if_waits (own me n) id p.from) found
              ∙ ap (λ b. cond {A = Option Entry} b (Some (own me n, e.1)) None) yes)

  pub noted : Told me c es ps id p → waiting me (clocks ps id me) id p.from es ≡ None
      → Comes me (lifted (with_proposal (state_of c es ps) id p.from p.clock) id) [] c es (with_told ps id p)
  noted t nothing =
      comes_none me c es (with_told ps id p) _ shows (told_sound t) placed
      (stuck_front me c es (with_told ps id p) _ shows placed (front_ends es (kept_front me c es ps t.kept)).0)
    where
      at_id : (e : Entry) → In e es → e.1.id ≡ id → StandsAt me (clocks (with_told ps id p) id) e
      at_id e there is =
          let before = subst (λ i. StandsAt me (clocks ps i) e) is (t.kept.placed.stand e there) in
          let same = untouched p (clocks ps id) e.1.groups (outside t nothing e there is) in
          subst (λ (f : ℕ → Option ℕ). StandsAt me f e) (sym (clocks_same ps id p)) (record {
            ascending = before.ascending;
            missing = before.missing ∙ sym same.0;
            place = before.place ∙ ap (λ q. place_by q (own me (or_zero (clocks ps id me)))) (sym same.1)
                ∙ ap (λ q. place_by (final (with_heard p (clocks ps id)) e.1.groups) (own me (or_zero q))) (sym (own_same t));
          })

      placed : ArePlaced me es (with_told ps id p)
      placed = record {
        rise = t.kept.placed.rise;
        once = t.kept.placed.once;
        stand = λ e there. elim (cases_Bool (same_id e.1.id id)) [
          | inl same ↦ let is = same_id-true e.1.id id same in
              subst (λ i. StandsAt me (clocks (with_told ps id p) i) e) (sym is) (at_id e there is)
          | inr other ↦ subst (λ (f : ℕ → Option ℕ). StandsAt me f e)
              (sym (clocks_other ps id p.from p.clock e.1.id (λ is. both_ways _ other (eq-same_id e.1.id id is))))
              (t.kept.placed.stand e there)
        ];
      }

      clock : (o : Option (List ℕ)) → groups_in es id ≡ o
          → lift c (final_of (with_proposal (state_of c es ps) id p.from p.clock) id (get (state_of c es ps).started id)) ≡ c
      clock None e = ap (λ q. lift c (final_of (with_proposal (state_of c es ps) id p.from p.clock) id q)) (started-state_of c es ps id ∙ e)
      clock (Some gs) e =
          let it = found_as es id gs e in
          let same = (untouched p (clocks ps id) gs (ap (λ l. has l p.from) (sym it.groups) ∙ outside t nothing it.one it.there it.id)).1 in
          ap (lift c) (now_final t gs e ∙ same) ∙ by_final (final (clocks ps id) gs) refl
        where
          by_final : (o : Option Stamp) → final (clocks ps id) gs ≡ o → lift c o ≡ c
          by_final None f = refl
          by_final (Some s) f = let k = t.kept.lawful.sound.tops id gs s (started-state_of c es ps id ∙ e) f in omega arith

      shows : lifted (with_proposal (state_of c es ps) id p.from p.clock) id ≡ state_of c es (with_told ps id p)
      shows = told_shows t es c refl (clock (groups_in es id) refl)

  -- ---- a request waits for it

  module _ {s : Stamp} {r : Pending} where
    stood : Told me c es ps id p → Waits me es ps id p.from s r → In (s, r) es
    stood t w = in_place es s r w.there

    known : Told me c es ps id p → Waits me es ps id p.from s r → groups_in es id ≡ Some r.groups
    known t w = ap (groups_in es) (sym w.named) ∙ finds es (s, r) t.kept.placed.once (stood t w)

    stands : Told me c es ps id p → Waits me es ps id p.from s r → StandsAt me (clocks ps id) (s, r)
    stands t w = subst (λ i. StandsAt me (clocks ps i) (s, r)) w.named (t.kept.placed.stand (s, r) (stood t w))

    pub less : Told me c es ps id p → Waits me es ps id p.from s r → missing (with_heard p (clocks ps id)) r.groups + 1 ≡ r.missing
    less t w = one_less p (clocks ps id) r.groups (stands t w).ascending w.member t.none ∙ sym (stands t w).missing

    moved_placed : Told me c es ps id p → Waits me es ps id p.from s r → (u : Stamp) (q : Pending) (es' : List Entry)
        → Replaces (u, q) es es'
        → q.id ≡ id → StandsAt me (with_heard p (clocks ps id)) (u, q) → ArePlaced me es' (with_told ps id p)
    moved_placed t w u q es' replaced is new = placed_replaced me (u, q) es es' ps (with_told ps id p) t.kept.placed replaced
        (λ i other. clocks_other ps id p.from p.clock i (λ e. other (e ∙ sym is)))
        (subst (λ (f : ℕ → Option ℕ). StandsAt me f (u, q)) (sym (clocks_same ps id p) ∙ ap (clocks (with_told ps id p)) (sym is)) new)

    moved_starts : Told me c es ps id p → Waits me es ps id p.from s r → (u : Stamp) (q : Pending) (es' : List Entry) (c' : ℕ)
        → Replaces (u, q) es es' → ArePlaced me es' (with_told ps id p) → q.id ≡ id → q.groups ≡ r.groups
        → (state_of c' es' (with_told ps id p)).started ≡ (state_of c es ps).started
    moved_starts t w u q es' c' replaced placed is groups = starts_same me c (u, q) es es' ps
        (with_told ps id p) t.kept.placed.once placed.once
        replaced (ap (groups_in es) is ∙ known t w ∙ ap Some (sym groups))

    -- more than one is missing, or the test tells
    pub no_stamp : Told me c es ps id p → Waits me es ps id p.from s r
        → (r.missing ≤ 1 → None ≡ final (with_heard p (clocks ps id)) r.groups) → final (with_heard p (clocks ps id)) r.groups ≡ None
    no_stamp t w test = elim (cases_lt 1 r.missing) [
      | inl many ↦ let fewer = less t w in some_missing (with_heard p (clocks ps id)) r.groups (λ z. omega arith)
      | inr few ↦ sym (test few)
    ]

    pub its_stamp : (u : Stamp) → (1 < r.missing → Some u ≡ None) → (r.missing ≤ 1 → Some u ≡ final (with_heard p (clocks ps id)) r.groups)
        → Told me c es ps id p → Waits me es ps id p.from s r → final (with_heard p (clocks ps id)) r.groups ≡ Some u
    its_stamp u none test t w = elim (cases_lt 1 r.missing) [
      | inl many ↦ absurd (None≢Some u (sym (none many)))
      | inr few ↦ sym (test few)
    ]

    -- another proposal is missing still
    pub lowered_comes : Told me c es ps id p → Waits me es ps id p.from s r → final (with_heard p (clocks ps id)) r.groups ≡ None
        → (es' : List Entry) → Moves s s (record r { missing = r.missing - 1 }) es es'
        → Comes me (lifted (with_proposal (state_of c es ps) id p.from p.clock) id) [] c es' (with_told ps id p)
    lowered_comes t w waits es' moves =
        let q = record r { missing = r.missing - 1 } in
        let replaced = replaces_moved s s r q es es' t.kept.placed.rise t.kept.placed.once moves w.there refl (inl refl) in
        let fewer = less t w in
        let placed = moved_placed t w s q es' replaced w.named (record {
          ascending = (stands t w).ascending;
          missing = omega arith;
          place = w.place ∙ ap (λ o. own me (or_zero o)) (sym (own_same t ∙ w.heard))
              ∙ ap (λ o. place_by o (own me (or_zero (with_heard p (clocks ps id) me)))) (sym waits);
        }) in
        let none = now_final t r.groups (known t w) ∙ waits in
        comes_none me c es' (with_told ps id p) _
        (told_shows t es' c (moved_starts t w s q es' c replaced placed w.named refl) (ap (lift c) none)) (told_sound t) placed
        (stuck_proposal me (state_of c es ps) id p.from p.clock t.kept.lawful t.other none)

    -- ---- it was the last one

    -- the final stamp isn't below the own proposal
    pub no_lower : Told me c es ps id p → Waits me es ps id p.from s r → (u : Stamp) → final (with_heard p (clocks ps id)) r.groups ≡ Some u
        → stamp_lt u s ≡ false
    no_lower t w u is =
        let member = (t.kept.lawful.sound.started id r.groups (started-state_of c es ps id ∙ known t w)).1 in
        let said = final_above (with_heard p (clocks ps id)) r.groups u me is member in
        let same : said.clock ≡ w.clock = some_same _ _ (sym said.heard ∙ own_same t ∙ w.heard) in
        ap (stamp_lt u) (w.place ∙ ap (own me) (sym same)) ∙ said.within

    -- no other request stands at the final stamp
    pub settles_free : Told me c es ps id p → Waits me es ps id p.from s r → (u : Stamp)
        → final (with_heard p (clocks ps id)) r.groups ≡ Some u
        → (u ≡ s) ⊎ (at es u ≡ None)
    settles_free t w u is = by_at (at es u) refl
      where
        proposed : (gs : List ℕ) → has gs me ≡ true → (f : ℕ → Option ℕ) (v : Stamp) → final f gs ≡ Some v → f v.group ≡ Some v.clock
        proposed [] m f v e = absurd (both_ways _ refl m)
        proposed (g ∷ gs) m f v e = final_proposed f g gs v e

        -- what stands at a place has it among its proposals
        at_proposal : (e : Entry) → In e es → clocks ps e.1.id e.0.group ≡ Some e.0.clock
        at_proposal e there = by_final (final (clocks ps e.1.id) e.1.groups) refl
          where
            started : get (state_of c es ps).started e.1.id ≡ Some e.1.groups
            started = started-state_of c es ps e.1.id ∙ finds es e t.kept.placed.once there

            own_there : (o : Option ℕ) → IsSome o → o ≡ Some (or_zero o)
            own_there None h = absurd (both_ways _ refl h)
            own_there (Some k) h = refl

            by_final : (o : Option Stamp) → final (clocks ps e.1.id) e.1.groups ≡ o → clocks ps e.1.id e.0.group ≡ Some e.0.clock
            by_final None f =
                let place : own me (or_zero (clocks ps e.1.id me)) ≡ e.0 =
                sym ((t.kept.placed.stand e there).place ∙ ap (λ o. place_by o (own me (or_zero (clocks ps e.1.id me)))) f) in
                subst (λ (v : Stamp). clocks ps e.1.id v.group ≡ Some v.clock) place
                (own_there (clocks ps e.1.id me) (t.kept.lawful.sound.started e.1.id e.1.groups started).0)
            by_final (Some v) f =
                let place : v ≡ e.0 = sym ((t.kept.placed.stand e there).place
                ∙ ap (λ o. place_by o (own me (or_zero (clocks ps e.1.id me)))) f) in
                subst (λ (x : Stamp). clocks ps e.1.id x.group ≡ Some x.clock) place
                (proposed e.1.groups (t.kept.lawful.sound.started e.1.id e.1.groups started).1 (clocks ps e.1.id) v f)

        member : has r.groups me ≡ true
        member = (t.kept.lawful.sound.started id r.groups (started-state_of c es ps id ∙ known t w)).1

        by_at : (o : Option Pending) → at es u ≡ o → (u ≡ s) ⊎ (at es u ≡ None)
        by_at None e = inr e
        by_at (Some q) e = elim (cases_Bool (same_id q.id id)) [
          | inl same ↦ inl (ap (λ (x : Entry). x.0) (t.kept.placed.once (u, q) (s, r) (in_place es u q e) (stood t w)
              (same_id-true q.id id same ∙ sym w.named)))
          | inr other ↦
              let ne : q.id ≡ id → ⊥ = λ same. both_ways _ other (eq-same_id q.id id same) in
              let first : heard (with_proposal (state_of c es ps) id p.from p.clock) q.id u.group ≡ Some u.clock =
              ap (λ (f : ℕ → Option ℕ). f u.group) (clocks_other ps id p.from p.clock q.id ne) ∙ at_proposal (u, q) (in_place es u q e) in
              let second : heard (with_proposal (state_of c es ps) id p.from p.clock) id u.group ≡ Some u.clock =
              ap (λ (f : ℕ → Option ℕ). f u.group) (clocks_same ps id p) ∙ proposed r.groups member (with_heard p (clocks ps id)) u is in
              absurd (ne ((told_sound t).apart q.id id u.group u.clock first second))
        ]

    pub settled_comes : Told me c es ps id p → Waits me es ps id p.from s r → (u : Stamp)
        → final (with_heard p (clocks ps id)) r.groups ≡ Some u
        → (es' : List Entry) → Moves s u (settled r) es es'
        → Comes me (lifted (with_proposal (state_of c es ps) id p.from p.clock) id) (front es') (max c u.clock) (behind es')
        (forgotten (front es') (with_told ps id p))
    settled_comes t w u is es' moves =
        let q = settled r in
        let replaced = replaces_moved s u r q es es' t.kept.placed.rise t.kept.placed.once moves w.there refl (settles_free t w u is) in
        let placed = moved_placed t w u q es' replaced w.named (record {
          ascending = (stands t w).ascending;
          missing = sym (none_missing (with_heard p (clocks ps id)) r.groups u is);
          place = ap (λ o. place_by o (own me (or_zero (with_heard p (clocks ps id) me)))) (sym is);
        }) in
        comes_front me (max c u.clock) es' (with_told ps id p) _
        (told_shows t es' (max c u.clock) (moved_starts t w u q es' (max c u.clock) replaced placed w.named refl)
        (ap (lift c) (now_final t r.groups (known t w) ∙ is))) (told_sound t) placed

-- ---- how many go

front_few : (es : List Entry) → length (front es) ≤ length es
front_few [] = omega arith
front_few (x ∷ xs) = let rest = front_few xs in elim (x.1.missing == 0) as
    (λ b. length (cond b (delivered x ∷ front xs) []) ≤ suc (length xs)) [
      | true ↦ omega arith
      | false ↦ omega arith
    ]

room_few : (s : Stamp) (es : List Entry) → room_for s es ≤ length es
room_few s [] = omega arith
room_few s (x ∷ xs) = let rest = front_few xs in elim (is_place s x.0) as
    (λ b. cond {A = ℕ} b (suc (length (front xs))) 0 ≤ suc (length xs)) [
      | true ↦ omega arith
      | false ↦ omega arith
    ]

-- one more among these lets one more go
entered_few : (t : Stamp) (p : Pending) (es : List Entry) → at es t ≡ None
    → length (front (insert_entry stamp_cmp es t p)) ≤ suc (length (front es))
entered_few t p [] free = elim (p.missing == 0) as (λ b. length
    (cond b (delivered (t, p) ∷ []) []) ≤ 1) [ true ↦ omega arith | false ↦ omega arith ]
entered_few t p (x ∷ xs) free = elim (stamp_cmp t x.0) as (λ r. stamp_cmp t x.0 ≡ r
    → length (front (match_ordering r ((t, p) ∷ x ∷ xs) ((x.0, p) ∷ xs) (x ∷ insert_entry stamp_cmp xs t p))) ≤ suc
    (length (front (x ∷ xs)))) [
      | Less ↦ λ e. elim (p.missing == 0) as (λ b. length (cond b (delivered (t, p) ∷ front (x ∷ xs)) []) ≤ suc (length (front (x ∷ xs)))) [
        | true ↦ omega arith
        | false ↦ omega arith
      ]
      | Equal ↦ λ e. absurd (None≢Some x.1 (sym free ∙ ap (λ r. cond (is_eq r) (Some x.1) (at xs t)) e))
      | Greater ↦ λ e.
          let rest = entered_few t p xs (sym (ap (λ r. cond (is_eq r) (Some x.1) (at xs t)) e) ∙ free) in
          elim (x.1.missing == 0) as (λ b. length (cond b (delivered x ∷ front (insert_entry stamp_cmp xs t p)) [])
          ≤ suc (length (cond b (delivered x ∷ front xs) []))) [
            | true ↦ omega arith
            | false ↦ omega arith
          ]
    ] refl

-- where the first one moves, the others let no more go than there is room for
first_moves : (s t : Stamp) (p : Pending) (x : Entry) (xs : List Entry) → s ≡ x.0 → stamp_lt t s ≡ false → (t ≡ s) ⊎ (at (x ∷ xs) t ≡ None)
    → length (front (moved s t p (x ∷ xs))) ≤ suc (length (front xs))
first_moves s t p x xs is not_below free = elim (cases_Bool (is_place s t)) [
  | inl e ↦ ap-le (moved_here s t p x xs is e)
      (elim (p.missing == 0) as (λ b. length (cond b (delivered (x.0, p) ∷ front xs) []) ≤ suc (length (front xs))) [
        | true ↦ omega arith
        | false ↦ omega arith
      ])
  | inr e ↦
      let none : at xs t ≡ None = elim free [
        | inl here ↦ absurd (both_ways _ e (is_itself s t (sym here)))
        | inr none ↦ sym (ap (λ r. cond (is_eq r) (Some x.1) (at xs t)) (past_first s t p x xs is not_below e)) ∙ none
      ] in
      ap-le (moved_past s t p x xs is not_below e) (entered_few t p xs none)
]
  where
    ap-le : {fs gs : List Entry} {m : ℕ} → fs ≡ gs → length (front gs) ≤ m → length (front fs) ≤ m
    ap-le {fs} {gs} {m} e few = subst (λ l. length (front l) ≤ m) (sym e) few

-- where another one is the first, it stays
first_stands : (s t : Stamp) (p : Pending) (x : Entry) (xs : List Entry) → stamp_lt x.0 s ≡ true → stamp_lt t s ≡ false
    → first_is_settled (x ∷ xs) ≡ false → front (moved s t p (x ∷ xs)) ≡ []
first_stands s t p x xs before not_below waits =
    let greater : stamp_cmp t x.0 ≡ Greater = gt_greater x.0 t (lt_le x.0 s t before not_below) in
    let other : is_place s x.0 ≡ false = ap is_eq (gt_greater x.0 s before) in
    ap (λ l. front (cond (is_place s t) l (remove_entry (is_place s) l)))
    (ap (λ r. match_ordering r ((t, p) ∷ x ∷ xs) ((x.0, p) ∷ xs) (x ∷ insert_entry stamp_cmp xs t p)) greater)
    ∙ elim (is_place s t) as (λ b. front (cond b (x ∷ insert_entry stamp_cmp xs t p)
    (remove_entry (is_place s) (x ∷ insert_entry stamp_cmp xs t p))) ≡ []) [
      | true ↦ ap (λ b. cond b (delivered x ∷ front (insert_entry stamp_cmp xs t p)) []) waits
      | false ↦
          ap (λ b. front (cond b (insert_entry stamp_cmp xs t p) (x ∷ remove_entry (is_place s) (insert_entry stamp_cmp xs t p)))) other
          ∙ ap (λ b. cond b (delivered x ∷ front (remove_entry (is_place s) (insert_entry stamp_cmp xs t p))) []) waits
    ]

-- there is room for all that go
pub go_few : {me c : ℕ} {es : List Entry} {ps : FinMap source_cmp ℕ} {id : RequestId} {p : Heard} {s : Stamp} {r : Pending}
    → Told me c es ps id p
    → Waits me es ps id p.from s r → (u : Stamp) → final (with_heard p (clocks ps id)) r.groups ≡ Some u → (q : Pending)
    → length (front (moved s u q es)) ≤ room_for s es
go_few {me} {c} {es} {ps} {id} {p} {s} {r} t w u is q = by_list es refl
  where
    by_list : (fs : List Entry) → es ≡ fs → length (front (moved s u q fs)) ≤ room_for s fs
    by_list [] e = absurd (None≢Some r (ap (λ l. at l s) (sym e) ∙ w.there))
    by_list (x ∷ xs) e = elim (is_place s x.0) as (λ b. is_place s x.0 ≡ b
        → length (front (moved s u q (x ∷ xs))) ≤ cond {A = ℕ} b (suc (length (front xs))) 0) [
          | true ↦ λ k. first_moves s u q x xs (same_place s x.0 k) (no_lower t w u is)
              (subst (λ l. (u ≡ s) ⊎ (at l u ≡ None)) e (settles_free t w u is))
          | false ↦ λ k.
              let rise = subst (λ (l : List Entry). IsStrictlySortedBy stamp_cmp (keys_of l)) e t.kept.placed.rise in
              let behind_it : In (s, r) xs = in_place xs s r (sym (ap (λ b. cond b (Some x.1) (at xs s)) k) ∙ ap (λ l. at l s) (sym e)
              ∙ w.there) in
              let none = first_stands s u q x xs (above_first x (s, r) xs rise behind_it) (no_lower t w u is)
              (ap first_is_settled (sym e) ∙ kept_front me c es ps t.kept) in
              let none_go = ap (λ (l : List Delivered). length l) none in
              omega arith
        ] refl

-- ---- the receipts, of what the code has made

-- a Proposal comes to a group that sees itself as v; list has the proposals for its request
pub record Hearing (v : GroupView) (me c : ℕ) (es : List Entry) (ps : FinMap source_cmp ℕ) (k : ℕ) (id : RequestId) (p : Heard)
    (list : List Heard) : Type 0 where
  pub kept : IsKept me c es ps
  pub shows : view me c es ps k ≡ v
  pub may : BodyMayCome v.me v.state id (Proposal p.from p.clock)
  pub tells : (g : ℕ) → clock_of list g ≡ clocks ps id g

pub record Done (v : GroupView) (id : RequestId) (p : Heard) (ds : List Delivered) (me c : ℕ) (es : List Entry) (ps : FinMap source_cmp ℕ)
    (k : ℕ)
    : Type 0 where
  pub kept : IsKept me c es ps
  pub receipt : IsReceipt v id (Proposal p.from p.clock) [] ds (view me c es ps k)

pub flag_few : (b : Bool) (n : ℕ) → n ≡ bool_byte b → n ≤ 1
flag_few true n e = omega arith
flag_few false n e = omega arith

module _ {v : GroupView} {me c : ℕ} {es : List Entry} {ps : FinMap source_cmp ℕ} {k : ℕ} {id : RequestId} {p : Heard} {list : List Heard}
  where
    may_come : Hearing v me c es ps k id p list → BodyMayCome me (state_of c es ps) id (Proposal p.from p.clock)
    may_come h = subst (λ (u : GroupView). BodyMayCome u.me u.state id (Proposal p.from p.clock)) (sym h.shows) h.may

    pub new : Hearing v me c es ps k id p list → is_some (clock_of list p.from) ≡ false → Told me c es ps id p
    new h none = record {
      kept = h.kept;
      other = (may_come h).0;
      single = (may_come h).2;
      none = sym (h.tells p.from) ∙ none_of (clock_of list p.from) none;
    }

    pub waits : Hearing v me c es ps k id p list → (o : Option ℕ) (s : Stamp) (r : Pending) → o ≡ clock_of list me
        → waiting me o id p.from es ≡ Some (s, r) → Waits me es ps id p.from s r
    waits h o s r own e = waits_of me es ps id p.from s r (ap (λ q. waiting me q id p.from es) (sym (own ∙ h.tells me)) ∙ e)

    told_final : Hearing v me c es ps k id p list → (gs : List ℕ)
        → final (with_heard p (clock_of list)) gs ≡ final (with_heard p (clocks ps id)) gs
    told_final h gs = ap (λ (f : ℕ → Option ℕ). final (with_heard p f) gs) (λ i g. h.tells g i)

    done : Hearing v me c es ps k id p list → (ds : List Delivered) (c' : ℕ) (es' : List Entry) (ps' : FinMap source_cmp ℕ) (k' : ℕ)
        → Comes me (lifted (with_proposal (state_of c es ps) id p.from p.clock) id) ds c' es' ps' → length ds ≤ length es + 1 →
        length ds ≤ k'
        → k' ≤ length ds + 2 → Done v id p ds me c' es' ps' k'
    done h ds c' es' ps' k' comes few least most = record {
      kept = comes.kept;
      receipt = subst (λ (u : GroupView). IsReceipt u id (Proposal p.from p.clock) [] ds (view me c' es' ps' k')) h.shows (record {
        me = refl;
        rule = (refl, comes.delivering);
        few = let count = len-started c es ps h.kept.placed.rise h.kept.placed.once in omega arith;
        least = least;
        most = most;
      });
    }

    -- the group has it already
    pub known_done : Hearing v me c es ps k id p list → is_some (clock_of list p.from) ≡ true → (ds : List Delivered) → ds ≡ []
        → Done v id p ds me c es ps 0
    known_done h known ds none =
        let grp = state_of c es ps in
        let had = some_of (clock_of list p.from) known in
        let there : clocks ps id p.from ≡ Some had.0 = sym (h.tells p.from) ∙ had.1 in
        let stays : lifted (with_proposal grp id p.from p.clock) id ≡ grp =
        ap (λ g. lifted g id) (same_proposal grp id p.from p.clock (there ∙ ap Some ((may_come h).3 had.0 there)))
        ∙ same_lifted me grp id h.kept.lawful.sound in
        let long = ap (λ (l : List Delivered). length l) none in
        done h ds c es ps 0 (record {
          delivering = subst (λ g. Delivering me g ds grp) (sym stays) (subst (λ l. Delivering me grp l grp) (sym none) (record {
            delivers = delivers_none me grp h.kept.lawful.stuck;
            after = sym (without_none grp);
          }));
          kept = h.kept;
        }) (omega arith) (omega arith) (omega arith)

    -- nothing waits for it
    pub noted_done : Hearing v me c es ps k id p list → Told me c es ps id p → (o : Option ℕ) → o ≡ clock_of list me
        → waiting me o id p.from es ≡ None → (ps' : FinMap source_cmp ℕ) → ps' ≡ with_told ps id p → (ds : List Delivered) → ds ≡ []
        → (k' : ℕ)
        → k' ≤ 1 → Done v id p ds me c es ps' k'
    noted_done h t o own nothing ps' kept ds none k' few =
        let long = ap (λ (l : List Delivered). length l) none in
        done h ds c es ps' k' (comes_as (sym none) refl refl (sym kept)
        (noted t (ap (λ q. waiting me q id p.from es) (sym (own ∙ h.tells me)) ∙ nothing))) (omega arith) (omega arith) (omega arith)

    module _ {s : Stamp} {r : Pending} where
      -- another proposal is missing still
      pub lowered_done : Hearing v me c es ps k id p list → Told me c es ps id p → Waits me es ps id p.from s r
          → (r.missing ≤ 1 → None ≡ final (with_heard p (clock_of list)) r.groups) → (es' : List Entry)
          → Moves s s (record r { missing = r.missing - 1 }) es es' → (ps' : FinMap source_cmp ℕ) → ps' ≡ with_told ps id p
          → (ds : List Delivered) → ds ≡ [] → Done v id p ds me c es' ps' 1
      lowered_done h t w test es' moves ps' kept ds none =
          let long = ap (λ (l : List Delivered). length l) none in
          done h ds c es' ps' 1 (comes_as (sym none) refl refl (sym kept)
          (lowered_comes t w (no_stamp t w (λ few. test few ∙ told_final h r.groups)) es' moves)) (omega arith) (omega arith) (omega arith)

      -- it was the last one
      pub settles : Hearing v me c es ps k id p list → Told me c es ps id p → Waits me es ps id p.from s r → (u : Stamp)
          → (1 < r.missing → Some u ≡ None) → (r.missing ≤ 1 → Some u ≡ final (with_heard p (clock_of list)) r.groups)
          → Settles me c es ps id p s r u
      settles h t w u none test = record { told = t; waits = w; final = its_stamp u none (λ few. test few ∙ told_final h r.groups) t w }

      pub settled_done : Hearing v me c es ps k id p list → (u : Stamp) → Settles me c es ps id p s r u
          → Moves s u (settled r) es (moved s u (settled r) es) → (ds : List Delivered) → ds ≡ front (moved s u (settled r) es)
          → (c' : ℕ) → max c u.clock ≡ c' → (es' : List Entry) → es' ≡ behind (moved s u (settled r) es) → (ps' : FinMap source_cmp ℕ)
          → ps' ≡ forgotten (front (moved s u (settled r) es)) (with_told ps r.id p) → (k' : ℕ) → length ds ≤ k' → k' ≤ length ds + 2
          → Done v id p ds me c' es' ps' k'
      settled_done h u it moves ds went c' clock es' left ps' forgot k' least most =
          let few = go_few it.told it.waits u it.final (settled r) in
          let all = room_few s es in
          let long = ap (λ (l : List Delivered). length l) went in
          let kept = ap (λ i. forgotten (front (moved s u (settled r) es)) (with_told ps i p)) (sym it.waits.named) in
          done h ds c' es' ps' k' (comes_as (sym went) clock (sym left) (kept ∙ sym forgot)
          (settled_comes it.told it.waits u it.final (moved s u (settled r) es) moves)) (omega arith) least most
