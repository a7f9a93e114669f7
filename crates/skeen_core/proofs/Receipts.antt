-- What is left once the settled requests in front are delivered.
use Rattle.std.proofs.Common.{◌≡◌, ℕ, ◌==◌, ◌||◌, Bool, true, false, cond, not, List, [], ◌∷◌, Option, Some, None, refl, sym, ap, ◌∙◌}
use Rattle.std.proofs.Common.{subst, inl, inr}
use Rattle.std.proofs.lemmas.Bool.{cases_Bool}
use Rattle.std.proofs.lemmas.Map.Keys.{sorted_tail}
use Rattle.std.specs.FinMap.{FinMap, empty, get, from_entries, retain_keys, get-retain_keys, same_map}
use Rattle.std.specs.List.Sorted.{IsStrictlySortedBy}
use Rattle.std.specs.Map.{keys_of}
use Rattle.groups.specs.declared.request.RequestId.{RequestId}
use Rattle.groups.specs.declared.stamp.Stamp.{Stamp}
use Rattle.groups.specs.Order.{In}
use Rattle.groups.specs.Request.{same_id, id_cmp, source_cmp}
use Rattle.groups.proofs.Ids.{id_total, id_antisym, same_id-true, same_id-sym}
use Rattle.skeen_core.specs.Group.{GroupState, MayGo, Delivers, Delivering, has_id, without}
use Rattle.skeen_core.specs.Kept.{starts_of, state_of, groups_in, StandsAt, ArePlaced, IsKept}
use Rattle.skeen_core.specs.Lawful.{Sound, Lawful}
use Rattle.skeen_core.specs.Pending.{stamp_cmp, Entry, delivered, first_is_settled, front, behind, forgotten}
use Rattle.skeen_core.specs.declared.packet.Delivered.{Delivered}
use Rattle.skeen_core.specs.declared.pending.Pending.{Pending}
use Rattle.skeen_core.proofs.Finite.{turned}
use Rattle.skeen_core.proofs.Fronts.{Once, get_forgotten, finds, started-state_of, first_alone, rest_once, front_delivers}
use Rattle.skeen_core.proofs.Lawful.{None≢Some, delivers_none, without_none, lawful_without}

behind_in : (es : List Entry) (e : Entry) → In e (behind es) → In e es
behind_in [] e there = absurd there
behind_in (x ∷ xs) e there = elim (x.1.missing == 0) as (λ b. In e (cond b (behind xs) (x ∷ xs)) → In e (x ∷ xs)) [
  | true ↦ λ i. inr (behind_in xs e i)
  | false ↦ λ i. i
] there

behind_rise : (es : List Entry) → IsStrictlySortedBy stamp_cmp (keys_of es) → IsStrictlySortedBy stamp_cmp (keys_of (behind es))
behind_rise [] rise = rise
behind_rise (x ∷ xs) rise = elim (x.1.missing == 0) as (λ b. IsStrictlySortedBy stamp_cmp (keys_of (cond b (behind xs) (x ∷ xs)))) [
  | true ↦ behind_rise xs (sorted_tail stamp_cmp x.0 (keys_of xs) rise)
  | false ↦ rise
]

no_more : {X : Type 0} (b : Bool) (o : Option X) → o ≡ None → cond b None o ≡ None
no_more true o e = refl
no_more false o e = e

groups_behind : (es : List Entry) (i : RequestId) → IsStrictlySortedBy stamp_cmp (keys_of es) → Once es
    → groups_in (behind es) i ≡ cond (has_id (front es) i) None (groups_in es i)
groups_behind [] i rise once = refl
groups_behind (x ∷ xs) i rise once = elim (x.1.missing == 0) as (λ b. groups_in (cond b (behind xs) (x ∷ xs)) i
    ≡ cond (has_id (cond b (delivered x ∷ front xs) []) i) None (groups_in (x ∷ xs) i)) [
      | true ↦
          groups_behind xs i (sorted_tail stamp_cmp x.0 (keys_of xs) rise) (rest_once x xs once)
          ∙ elim (cases_Bool (same_id i x.1.id)) [
            | inl e ↦
                no_more (has_id (front xs) i) (groups_in xs i) (ap (groups_in xs) (same_id-true i x.1.id e) ∙ first_alone x xs rise once)
                ∙ sym (ap (λ b. cond (b || has_id (front xs) i) None (groups_in (x ∷ xs) i)) (same_id-sym x.1.id i ∙ e))
            | inr e ↦
                ap (cond (has_id (front xs) i) None) (sym (ap (λ b. cond b (Some x.1.groups) (groups_in xs i)) e))
                ∙ sym (ap (λ b. cond (b || has_id (front xs) i) None (groups_in (x ∷ xs) i)) (same_id-sym x.1.id i ∙ e))
          ]
      | false ↦ refl
    ]

not_gone : (es : List Entry) (e : Entry) → IsStrictlySortedBy stamp_cmp (keys_of es) → Once es → In e (behind es)
    → has_id (front es) e.1.id ≡ false
not_gone es e rise once there = elim (cases_Bool (has_id (front es) e.1.id)) [
  | inl p ↦ absurd (None≢Some e.1.groups (sym (ap (λ b. cond b None (groups_in es e.1.id)) p)
      ∙ sym (groups_behind es e.1.id rise once)
      ∙ finds (behind es) e (λ a b i j. once a b (behind_in es a i) (behind_in es b j)) there))
  | inr p ↦ p
]

pub placed_behind : (me : ℕ) (es : List Entry) (ps : FinMap source_cmp ℕ) → ArePlaced me es ps
    → ArePlaced me (behind es) (forgotten (front es) ps)
placed_behind me es ps placed = record {
  rise = behind_rise es placed.rise;
  once = λ e f i j. placed.once e f (behind_in es e i) (behind_in es f j);
  stand = λ e i. subst (λ (f : ℕ → Option ℕ). StandsAt me f e)
      (λ k g. sym (get_forgotten (front es) ps (record { id = e.1.id; from = g })
      ∙ ap (λ b. cond b None (get ps (record { id = e.1.id; from = g }))) (not_gone es e placed.rise placed.once i)) k)
      (placed.stand e (behind_in es e i));
}

pub without-state_of : (me c : ℕ) (es : List Entry) (ps : FinMap source_cmp ℕ) → ArePlaced me es ps
    → state_of c (behind es) (forgotten (front es) ps) ≡ without (state_of c es ps) (front es)
without-state_of me c es ps placed =
    let started : from_entries {R = id_cmp} (starts_of (behind es))
    ≡ retain_keys (from_entries (starts_of es)) (λ i. not (has_id (front es) i)) =
    same_map id_total id_antisym _ _ (λ i.
    started-state_of c (behind es) ps i ∙ groups_behind es i placed.rise placed.once
    ∙ ap (cond (has_id (front es) i) None) (sym (started-state_of c es ps i))
    ∙ sym (get-retain_keys (state_of c es ps).started (λ j. not (has_id (front es) j)) i
    (λ j e. ap (λ k. not (has_id (front es) k)) (sym (id_antisym i j e)))
    ∙ turned (has_id (front es) i) (get (state_of c es ps).started i))) in
    λ k. record { clock = c; started = started k; proposals = forgotten (front es) ps; reached = empty }

-- ---- from a sound state that the entries show

pub record Comes (me : ℕ) (grp : GroupState) (ds : List Delivered) (c : ℕ) (es : List Entry) (ps : FinMap source_cmp ℕ) : Type 0 where
  pub delivering : Delivering me grp ds (state_of c es ps)
  pub kept : IsKept me c es ps

-- the same, of what equals it
pub comes_as : {me : ℕ} {grp : GroupState} {ds ds' : List Delivered} {c c' : ℕ} {es es' : List Entry} {ps ps' : FinMap source_cmp ℕ}
    → ds ≡ ds'
    → c ≡ c' → es ≡ es' → ps ≡ ps' → Comes me grp ds c es ps → Comes me grp ds' c' es' ps'
comes_as {me} {grp} {ds} {ds'} {c} {c'} {es} {es'} {ps} {ps'} d k e p comes =
    subst (λ x. Comes me grp x c' es' ps') d
    (subst (λ x. Comes me grp ds x es' ps') k
    (subst (λ x. Comes me grp ds c x ps') e (subst (λ x. Comes me grp ds c es x) p comes)))

-- the front is delivered
pub comes_front : (me c : ℕ) (es : List Entry) (ps : FinMap source_cmp ℕ) (grp : GroupState) → grp ≡ state_of c es ps → Sound me grp
    → ArePlaced me es ps → Comes me grp (front es) c (behind es) (forgotten (front es) ps)
comes_front me c es ps grp shows sound placed =
    let delivers : Delivers me grp (front es) = subst (λ g. Delivers me g (front es)) (sym shows) (front_delivers me c es ps placed) in
    let left : state_of c (behind es) (forgotten (front es) ps) ≡ without grp (front es) =
    without-state_of me c es ps placed ∙ ap (λ g. without g (front es)) (sym shows) in
    record {
      delivering = record { delivers = delivers; after = left };
      kept = record {
        placed = placed_behind me es ps placed;
        lawful = subst (λ g. Lawful me g) (sym left) (lawful_without me grp (front es) sound delivers);
      };
    }

-- nothing may go
pub comes_none : (me c : ℕ) (es : List Entry) (ps : FinMap source_cmp ℕ) (grp : GroupState) → grp ≡ state_of c es ps → Sound me grp
    → ArePlaced me es ps → ((d : Delivered) → MayGo me grp d → ⊥) → Comes me grp [] c es ps
comes_none me c es ps grp shows sound placed stuck = record {
  delivering = record { delivers = delivers_none me grp stuck; after = sym shows ∙ sym (without_none grp) };
  kept = record { placed = placed; lawful = subst (λ g. Lawful me g) shows (record { sound = sound; stuck = stuck }) };
}

-- the first isn't settled
pub stuck_front : (me c : ℕ) (es : List Entry) (ps : FinMap source_cmp ℕ) (grp : GroupState) → grp ≡ state_of c es ps → ArePlaced me es ps
    → front es ≡ [] → (d : Delivered) → MayGo me grp d → ⊥
stuck_front me c es ps grp shows placed none d may =
    subst (λ ds. In d ds) none ((front_delivers me c es ps placed).all d (subst (λ g. MayGo me g d) shows may))

-- what is kept has no settled request in front
pub kept_front : (me c : ℕ) (es : List Entry) (ps : FinMap source_cmp ℕ) → IsKept me c es ps → first_is_settled es ≡ false
kept_front me c [] ps kept = refl
kept_front me c (x ∷ xs) ps kept = elim (cases_Bool (x.1.missing == 0)) [
  | inl e ↦ absurd (kept.lawful.stuck (delivered x) ((front_delivers me c (x ∷ xs) ps kept.placed).only (delivered x)
      (subst (λ ds. In (delivered x) ds) (sym (ap (λ b. cond b (delivered x ∷ front xs) []) e)) (inl refl))))
  | inr e ↦ e
]

pub kept_new : (me : ℕ) (rise : IsStrictlySortedBy stamp_cmp (keys_of {K = Stamp} {X = Pending} [])) (ps : FinMap source_cmp ℕ)
    → Lawful me (state_of 0 [] ps) → IsKept me 0 [] ps
kept_new me rise ps lawful = record {
  placed = record { rise = rise; once = λ e f i j. absurd i; stand = λ e i. absurd i };
  lawful = lawful;
}
