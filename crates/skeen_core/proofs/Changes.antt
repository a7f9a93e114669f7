-- A request stands at a new place: what stands in the entries then, and that a proposal changes nothing of the others.
use Rattle.std.proofs.Common.{◌≡◌, ℕ, ◌==◌, ◌&&◌, true, false, cond, List, Option, Some, None}
use Rattle.std.proofs.Common.{refl, sym, ap, ◌∙◌, subst, inl, inr, ◌⊎◌}
use Rattle.std.proofs.lemmas.Bool.{both_ways, cases_Bool}
use Rattle.std.specs.FinMap.{FinMap, get, insert, get-insert, same_map}
use Rattle.std.specs.List.Sorted.{IsStrictlySortedBy}
use Rattle.std.specs.Map.{keys_of}
use Rattle.groups.specs.declared.request.RequestId.{RequestId}
use Rattle.groups.specs.declared.stamp.Stamp.{Stamp}
use Rattle.groups.specs.Order.{In}
use Rattle.groups.specs.Request.{same_id, source_cmp}
use Rattle.groups.proofs.Ids.{id_total, id_antisym, id_tied, source_total, source_tied, same_id-true, same_id-refl, ne-same_id}
use Rattle.groups.proofs.Options.{some_same}
use Rattle.skeen_core.specs.Heard.{with_heard}
use Rattle.skeen_core.specs.Kept.{state_of, groups_in, StandsAt, ArePlaced}
use Rattle.skeen_core.specs.Pending.{stamp_cmp, is_place, Entry, at, Moves}
use Rattle.skeen_core.specs.declared.heard.Heard.{Heard}
use Rattle.skeen_core.specs.declared.pending.Pending.{Pending}
use Rattle.skeen_core.proofs.Fronts.{Once, found_as, finds, finds_none, none_finds, started-state_of}
use Rattle.skeen_core.proofs.Lawful.{None≢Some}
use Rattle.skeen_core.proofs.Places.{same_place, is_itself, at_its_place, in_place}

-- new stands there, none else of its request, and all others
pub record Replaces (new : Entry) (es es' : List Entry) : Type 0 where
  pub rise : IsStrictlySortedBy stamp_cmp (keys_of es')
  pub there : In new es'
  pub only : (e : Entry) → In e es' → (e ≡ new) ⊎ (In e es × (e.1.id ≡ new.1.id → ⊥))
  pub others : (e : Entry) → In e es → (e.1.id ≡ new.1.id → ⊥) → In e es'

-- what stands at the two places is of the request, and it stands at no other place
pub replaces : (s t : Stamp) (p : Pending) (es es' : List Entry) → IsStrictlySortedBy stamp_cmp (keys_of es) → Moves s t p es es'
    → ((e : Entry) → In e es → e.1.id ≡ p.id → s ≡ e.0) → ((e : Entry) → In e es → s ≡ e.0 → e.1.id ≡ p.id)
    → ((e : Entry) → In e es → t ≡ e.0 → e.1.id ≡ p.id) → Replaces (t, p) es es'
replaces s t p es es' rise moves place old new = record {
  rise = moves.rise;
  there = in_place es' t p (moves.at t ∙ ap (λ b. cond b (Some p) (cond (is_place s t) None (at es t))) (is_itself t t refl));
  only = λ e there. by_new e there (cases_Bool (is_place t e.0));
  others = λ e there other. subst (λ x. In x es') refl (in_place es' e.0 e.1 (moves.at e.0
      ∙ ap (λ b. cond b (Some p) (cond (is_place s e.0) None (at es e.0))) (apart t e (λ k. other (new e there k)))
      ∙ ap (λ b. cond b None (at es e.0)) (apart s e (λ k. other (old e there k))) ∙ at_its_place es e rise there));
}
  where
    apart : (q : Stamp) (e : Entry) → (q ≡ e.0 → ⊥) → is_place q e.0 ≡ false
    apart q e ne = elim (cases_Bool (is_place q e.0)) [ inl k ↦ absurd (ne (same_place q e.0 k)) | inr k ↦ k ]

    by_new : (e : Entry) → In e es' → (is_place t e.0 ≡ true) ⊎ (is_place t e.0 ≡ false) → (e ≡ (t, p)) ⊎ (In e es × (e.1.id ≡ p.id → ⊥))
    by_new e there (inl k) =
        let is : Some p ≡ Some e.1 = sym (moves.at e.0 ∙ ap (λ b. cond b (Some p) (cond (is_place s e.0) None (at es e.0))) k)
        ∙ at_its_place es' e moves.rise there in
        let places = same_place t e.0 k in let values = some_same p e.1 is in
        inl (λ i. (sym places i, sym values i))
    by_new e there (inr k) =
        let was : cond (is_place s e.0) None (at es e.0) ≡ Some e.1 =
        sym (moves.at e.0 ∙ ap (λ b. cond b (Some p) (cond (is_place s e.0) None (at es e.0))) k) ∙ at_its_place es' e moves.rise there in
        inr (elim (cases_Bool (is_place s e.0)) [
          | inl h ↦ absurd (None≢Some e.1 (sym (ap (λ b. cond b None (at es e.0)) h) ∙ was))
          | inr h ↦
              let stood = in_place es e.0 e.1 (sym (ap (λ b. cond b None (at es e.0)) h) ∙ was) in
              (stood, λ same. both_ways _ h (is_itself s e.0 (place e stood same)))
        ])

-- one that moves
pub replaces_moved : (s t : Stamp) (old p : Pending) (es es' : List Entry) → IsStrictlySortedBy stamp_cmp (keys_of es) → Once es
    → Moves s t p es es' → at es s ≡ Some old → old.id ≡ p.id → (t ≡ s) ⊎ (at es t ≡ None) → Replaces (t, p) es es'
replaces_moved s t old p es es' rise once moves stood same free =
    replaces s t p es es' rise moves
    (λ e there is. ap (λ (x : Entry). x.0) (once (s, old) e (in_place es s old stood) there (same ∙ sym is))) at_old
    (λ e there is. elim free [
      | inl here ↦ at_old e there (sym here ∙ is)
      | inr none ↦ absurd (None≢Some e.1 (sym none ∙ ap (at es) is ∙ at_its_place es e rise there))
    ])
  where
    at_old : (e : Entry) → In e es → s ≡ e.0 → e.1.id ≡ p.id
    at_old e there is = ap (λ x. x.id) (some_same e.1 old (sym (at_its_place es e rise there) ∙ ap (at es) (sym is) ∙ stood)) ∙ same

-- one that begins
pub replaces_none : (t : Stamp) (p : Pending) (es es' : List Entry) → IsStrictlySortedBy stamp_cmp (keys_of es) → Moves t t p es es'
    → at es t ≡ None → ((e : Entry) → In e es → e.1.id ≡ p.id → ⊥) → Replaces (t, p) es es'
replaces_none t p es es' rise moves free absent =
    replaces t t p es es' rise moves (λ e there is. absurd (absent e there is)) free_there free_there
  where
    free_there : (e : Entry) → In e es → t ≡ e.0 → e.1.id ≡ p.id
    free_there e there is = absurd (None≢Some e.1 (sym free ∙ ap (at es) is ∙ at_its_place es e rise there))

-- ---- the proposals

pub heard-insert : (ps : FinMap source_cmp ℕ) (id : RequestId) (from n : ℕ) (i : RequestId) (g : ℕ)
    → get (insert ps (record { id = id; from = from }) n) (record { id = i; from = g })
    ≡ cond (same_id i id && g == from) (Some n) (get ps (record { id = i; from = g }))
heard-insert ps id from n i g =
    get-insert source_total ps (record { id = id; from = from }) n (record { id = i; from = g })
    ∙ ap (λ b. cond b (Some n) (get ps (record { id = i; from = g })))
    (source_tied (record { id = i; from = g }) (record { id = id; from = from }))

abbrev pub clocks : FinMap source_cmp ℕ → RequestId → ℕ → Option ℕ
clocks ps i g = get ps (record { id = i; from = g })

-- those of the request
pub clocks_same : (ps : FinMap source_cmp ℕ) (id : RequestId) (p : Heard)
    → clocks (insert ps (record { id = id; from = p.from }) p.clock) id ≡ with_heard p (clocks ps id)
clocks_same ps id p = λ k g. (heard-insert ps id p.from p.clock id g
    ∙ ap (λ b. cond (b && g == p.from) (Some p.clock) (clocks ps id g)) (same_id-refl id)) k

-- those of another request
pub clocks_other : (ps : FinMap source_cmp ℕ) (id : RequestId) (from n : ℕ) (i : RequestId) → (i ≡ id → ⊥)
    → clocks (insert ps (record { id = id; from = from }) n) i ≡ clocks ps i
clocks_other ps id from n i other = λ k g. (heard-insert ps id from n i g
    ∙ ap (λ b. cond (b && g == from) (Some n) (clocks ps i g)) (ne-same_id i id other)) k

-- ---- the entries stand, and show the same starts

pub placed_replaced : (me : ℕ) (new : Entry) (es es' : List Entry) (ps ps' : FinMap source_cmp ℕ) → ArePlaced me es ps → Replaces new es es'
    → ((i : RequestId) → (i ≡ new.1.id → ⊥) → clocks ps' i ≡ clocks ps i) → StandsAt me (clocks ps' new.1.id) new → ArePlaced me es' ps'
placed_replaced me new es es' ps ps' placed replaced others stands = record {
  rise = replaced.rise;
  once = λ e f i j same. elim (replaced.only e i) [
    | inl first ↦ elim (replaced.only f j) [
      | inl second ↦ first ∙ sym second
      | inr second ↦ absurd (second.1 (sym same ∙ ap (λ (x : Entry). x.1.id) first))
    ]
    | inr first ↦ elim (replaced.only f j) [
      | inl second ↦ absurd (first.1 (same ∙ ap (λ (x : Entry). x.1.id) second))
      | inr second ↦ placed.once e f first.0 second.0 same
    ]
  ];
  stand = λ e i. elim (replaced.only e i) [
    | inl same ↦ subst (λ (x : Entry). StandsAt me (clocks ps' x.1.id) x) (sym same) stands
    | inr other ↦ subst (λ (f : ℕ → Option ℕ). StandsAt me f e) (sym (others e.1.id other.1)) (placed.stand e other.0)
  ];
}

pub groups_replaced : (new : Entry) (es es' : List Entry) → Once es → Once es' → Replaces new es es' → (i : RequestId)
    → groups_in es' i ≡ cond (same_id i new.1.id) (Some new.1.groups) (groups_in es i)
groups_replaced new es es' once once' replaced i = by_id (cases_Bool (same_id i new.1.id))
  where
    by_old : (i ≡ new.1.id → ⊥) → (o : Option (List ℕ)) → groups_in es i ≡ o → groups_in es' i ≡ o
    by_old other (Some gs) e =
        let it = found_as es i gs e in
        ap (groups_in es') (sym it.id) ∙ finds es' it.one once' (replaced.others it.one it.there (λ same. other (sym it.id ∙ same)))
        ∙ ap Some it.groups
    by_old other None e = finds_none es' i (λ x there is. elim (replaced.only x there) [
      | inl same ↦ other (sym is ∙ ap (λ (y : Entry). y.1.id) same)
      | inr stood ↦ none_finds es i e x stood.0 is
    ])

    by_id : (same_id i new.1.id ≡ true) ⊎ (same_id i new.1.id ≡ false)
        → groups_in es' i ≡ cond (same_id i new.1.id) (Some new.1.groups) (groups_in es i)
    by_id (inl e) = ap (groups_in es') (same_id-true i new.1.id e) ∙ finds es' new once' replaced.there
        ∙ sym (ap (λ b. cond b (Some new.1.groups) (groups_in es i)) e)
    by_id (inr e) = by_old (λ same. both_ways _ e (ap (λ j. same_id j new.1.id) same ∙ same_id-refl new.1.id)) (groups_in es i) refl
        ∙ sym (ap (λ b. cond b (Some new.1.groups) (groups_in es i)) e)

pub starts_more : (me c : ℕ) (new : Entry) (es es' : List Entry) (ps ps' : FinMap source_cmp ℕ) → Once es → Once es' → Replaces new es es'
    → (state_of c es' ps').started ≡ insert (state_of c es ps).started new.1.id new.1.groups
starts_more me c new es es' ps ps' once once' replaced = same_map id_total id_antisym _ _ (λ i.
    started-state_of c es' ps' i ∙ groups_replaced new es es' once once' replaced i
    ∙ ap (cond (same_id i new.1.id) (Some new.1.groups)) (sym (started-state_of c es ps i))
    ∙ sym (get-insert id_total (state_of c es ps).started new.1.id new.1.groups i
    ∙ ap (λ b. cond b (Some new.1.groups) (get (state_of c es ps).started i)) (id_tied i new.1.id)))

pub starts_same : (me c : ℕ) (new : Entry) (es es' : List Entry) (ps ps' : FinMap source_cmp ℕ) → Once es → Once es' → Replaces new es es'
    → groups_in es new.1.id ≡ Some new.1.groups → (state_of c es' ps').started ≡ (state_of c es ps).started
starts_same me c new es es' ps ps' once once' replaced known = same_map id_total id_antisym _ _ (λ i.
    started-state_of c es' ps' i ∙ groups_replaced new es es' once once' replaced i
    ∙ by_id i (cases_Bool (same_id i new.1.id)) ∙ sym (started-state_of c es ps i))
  where
    by_id : (i : RequestId) → (same_id i new.1.id ≡ true) ⊎ (same_id i new.1.id ≡ false)
        → cond (same_id i new.1.id) (Some new.1.groups) (groups_in es i) ≡ groups_in es i
    by_id i (inl e) = ap (λ b. cond b (Some new.1.groups) (groups_in es i)) e ∙ sym known
        ∙ ap (groups_in es) (sym (same_id-true i new.1.id e))
    by_id i (inr e) = ap (λ b. cond b (Some new.1.groups) (groups_in es i)) e
