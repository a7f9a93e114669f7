-- The settled requests in front are what the rule delivers.
use Rattle.std.proofs.Common.{◌≡◌, ℕ, ◌+◌, ◌==◌, ◌||◌, Bool, true, false, cond, not, List, [], ◌∷◌, Option, Some, None, length, refl}
use Rattle.std.proofs.Common.{sym, ap, ◌∙◌, subst, arith, inl, inr, eqb-true, eq-eqb}
use Rattle.std.proofs.lemmas.Bool.{both_ways}
use Rattle.std.proofs.lemmas.Map.Keys.{sorted_tail}
use Rattle.std.specs.FinMap.{FinMap, get, len, retain_keys, find, get-from_entries, get-retain_keys, len-empty, len-insert, same_map}
use Rattle.std.specs.List.Sorted.{IsStrictlySortedBy}
use Rattle.std.specs.Map.{keys_of}
use Rattle.std.specs.Option.{is_some}
use Rattle.groups.specs.declared.request.RequestId.{RequestId}
use Rattle.groups.specs.declared.stamp.Stamp.{Stamp}
use Rattle.groups.specs.Order.{In}
use Rattle.groups.specs.Request.{same_id, id_cmp, Source, source_cmp}
use Rattle.groups.specs.Stamp.{stamp_lt, final, place_by}
use Rattle.groups.proofs.Ids.{id_total, id_tied, source_total, source_antisym, same_id-true, eq-same_id}
use Rattle.groups.proofs.Options.{some_same}
use Rattle.groups.proofs.Stamps.{lt_irrefl, lt_asym}
use Rattle.skeen_core.specs.Group.{heard, or_zero, own_at, Ascending, Delivers, has_id}
use Rattle.skeen_core.specs.Kept.{starts_of, state_of, groups_in, StandsAt, ArePlaced}
use Rattle.skeen_core.specs.Pending.{stamp_cmp, Entry, delivered, first_is_settled, front, behind, forgotten}
use Rattle.skeen_core.specs.declared.packet.Delivered.{Delivered}
use Rattle.skeen_core.proofs.Finite.{turned}
use Rattle.skeen_core.proofs.Lawful.{None≢Some, named}
use Rattle.skeen_core.proofs.Missing.{all_heard, some_missing}
use Rattle.skeen_core.proofs.Places.{above_first}

-- ---- one taken out

pub front_more : (es : List Entry) (x : Entry) (xs : List Entry) → es ≡ x ∷ xs → first_is_settled es ≡ true
    → (front es ≡ delivered x ∷ front xs) × (behind es ≡ behind xs)
front_more es x xs e settled =
    let is : (x.1.missing == 0) ≡ true = ap first_is_settled (sym e) ∙ settled in (
      ap front e ∙ ap (λ b. cond b (delivered x ∷ front xs) []) is,
      ap behind e ∙ ap (λ b. cond b (behind xs) (x ∷ xs)) is,
    )

pub front_ends : (es : List Entry) → first_is_settled es ≡ false → (front es ≡ []) × (behind es ≡ es)
front_ends [] e = (refl, refl)
front_ends (x ∷ xs) e = (ap (λ b. cond b (delivered x ∷ front xs) []) e, ap (λ b. cond b (behind xs) (x ∷ xs)) e)

either_gone : {X : Type 0} (a b : Bool) (x : Option X) → cond b None (cond a None x) ≡ cond (a || b) None x
either_gone true true x = refl
either_gone true false x = refl
either_gone false b x = refl

pub get_forgotten : (ds : List Delivered) (ps : FinMap source_cmp ℕ) (s : Source)
    → get (forgotten ds ps) s ≡ cond (has_id ds s.id) None (get ps s)
get_forgotten ds ps s = get-retain_keys ps (λ t. not (has_id ds t.id)) s
    (λ t e. ap (λ (u : Source). not (has_id ds u.id)) (sym (source_antisym s t e))) ∙ turned (has_id ds s.id) (get ps s)

pub forget_more : (id : RequestId) (d : Delivered) (ds : List Delivered) (ps ps' : FinMap source_cmp ℕ) → d.id ≡ id
    → ps' ≡ retain_keys ps (λ s. not (same_id id s.id)) → forgotten ds ps' ≡ forgotten (d ∷ ds) ps
forget_more id d ds ps ps' named is = same_map source_total source_antisym (forgotten ds ps') (forgotten (d ∷ ds) ps) (λ s.
    get_forgotten ds ps' s ∙ ap (λ m. cond (has_id ds s.id) None (get m s)) is
    ∙ ap (cond (has_id ds s.id) None) (get-retain_keys ps (λ t. not (same_id id t.id)) s
    (λ t e. ap (λ (u : Source). not (same_id id u.id)) (sym (source_antisym s t e))) ∙ turned (same_id id s.id) (get ps s)
    ∙ ap (λ i. cond (same_id i s.id) None (get ps s)) (sym named))
    ∙ either_gone (same_id d.id s.id) (has_id ds s.id) (get ps s) ∙ sym (get_forgotten (d ∷ ds) ps s))

pub forget_none : (ps : FinMap source_cmp ℕ) → forgotten [] ps ≡ ps
forget_none ps = same_map source_total source_antisym (forgotten [] ps) ps (λ s. get_forgotten [] ps s)

-- ---- what stands in the entries is found by its id

pub record FoundAs (es : List Entry) (i : RequestId) (gs : List ℕ) : Type 0 where
  pub one : Entry
  pub there : In one es
  pub id : one.1.id ≡ i
  pub groups : one.1.groups ≡ gs

pub found_as : (es : List Entry) (i : RequestId) (gs : List ℕ) → groups_in es i ≡ Some gs → FoundAs es i gs
found_as [] i gs e = absurd (None≢Some gs e)
found_as (x ∷ xs) i gs e = elim (same_id i x.1.id) as (λ b. same_id i x.1.id ≡ b → cond b (Some x.1.groups) (groups_in xs i) ≡ Some gs
    → FoundAs (x ∷ xs) i gs) [
      | true ↦ λ p d. record { one = x; there = inl refl; id = sym (same_id-true i x.1.id p); groups = some_same _ _ d }
      | false ↦ λ p d. let rest = found_as xs i gs d in
          record { one = rest.one; there = inr rest.there; id = rest.id; groups = rest.groups }
    ] refl e

found_some : (es : List Entry) (e : Entry) (i : RequestId) → In e es → e.1.id ≡ i → groups_in es i ≡ None → ⊥
found_some [] e i there is none = absurd there
found_some (x ∷ xs) e i (inl same) is none =
    None≢Some x.1.groups (sym none
    ∙ ap (λ b. cond b (Some x.1.groups) (groups_in xs i)) (eq-same_id i x.1.id (sym is ∙ ap (λ (y : Entry). y.1.id) same)))
found_some (x ∷ xs) e i (inr there) is none =
    found_some xs e i there is (elim (same_id i x.1.id) as (λ b. cond b (Some x.1.groups) (groups_in xs i) ≡ None → groups_in xs i ≡ None) [
      | true ↦ λ d. absurd (None≢Some x.1.groups (sym d))
      | false ↦ λ d. d
    ] none)

abbrev pub Once : List Entry → Type 0
Once es = (e f : Entry) → In e es → In f es → e.1.id ≡ f.1.id → e ≡ f

pub finds : (es : List Entry) (e : Entry) → Once es → In e es → groups_in es e.1.id ≡ Some e.1.groups
finds es e once there = by_find (groups_in es e.1.id) refl
  where
    by_find : (o : Option (List ℕ)) → groups_in es e.1.id ≡ o → o ≡ Some e.1.groups
    by_find None none = absurd (found_some es e e.1.id there refl none)
    by_find (Some gs) is = let it = found_as es e.1.id gs is in
        ap Some (sym it.groups ∙ ap (λ (y : Entry). y.1.groups) (once it.one e it.there there it.id))

-- no request of that id stands there
pub finds_none : (es : List Entry) (i : RequestId) → ((e : Entry) → In e es → e.1.id ≡ i → ⊥) → groups_in es i ≡ None
finds_none es i none = by_find (groups_in es i) refl
  where
    by_find : (o : Option (List ℕ)) → groups_in es i ≡ o → o ≡ None
    by_find None e = refl
    by_find (Some gs) e = let it = found_as es i gs e in absurd (none it.one it.there it.id)

pub none_finds : (es : List Entry) (i : RequestId) → groups_in es i ≡ None → (e : Entry) → In e es → e.1.id ≡ i → ⊥
none_finds es i none e there is = found_some es e i there is none

find_start : (es : List Entry) (i : RequestId) → find id_cmp i (starts_of es) ≡ groups_in es i
find_start [] i = refl
find_start (e ∷ es) i =
    ap (λ b. cond b (Some e.1.groups) (find id_cmp i (starts_of es))) (id_tied i e.1.id)
    ∙ ap (cond (same_id i e.1.id) (Some e.1.groups)) (find_start es i)

pub started-state_of : (c : ℕ) (es : List Entry) (ps : FinMap source_cmp ℕ) (i : RequestId)
    → get (state_of c es ps).started i ≡ groups_in es i
started-state_of c es ps i = get-from_entries id_total (starts_of es) i ∙ find_start es i

-- none of the others has the first one's id
pub first_alone : (x : Entry) (xs : List Entry) → IsStrictlySortedBy stamp_cmp (keys_of (x ∷ xs)) → Once (x ∷ xs)
    → groups_in xs x.1.id ≡ None
first_alone x xs rise once = finds_none xs x.1.id (λ e there is.
    let same : x ≡ e = once x e (inl refl) (inr there) (sym is) in
    both_ways _ (lt_irrefl x.0) (ap (λ (y : Entry). stamp_lt x.0 y.0) same ∙ above_first x e xs rise there))

pub rest_once : (x : Entry) (xs : List Entry) → Once (x ∷ xs) → Once xs
rest_once x xs once e f there here same = once e f (inr there) (inr here) same

-- as many have started as there are entries
pub len-started : (c : ℕ) (es : List Entry) (ps : FinMap source_cmp ℕ) → IsStrictlySortedBy stamp_cmp (keys_of es) → Once es
    → len (state_of c es ps).started ≡ length es
len-started c [] ps rise once = len-empty id_cmp (List ℕ)
len-started c (x ∷ xs) ps rise once =
    let new : get (state_of c xs ps).started x.1.id ≡ None = started-state_of c xs ps x.1.id ∙ first_alone x xs rise once in
    let rest = len-started c xs ps (sorted_tail stamp_cmp x.0 (keys_of xs) rise) (rest_once x xs once) in
    let one_more : len (state_of c (x ∷ xs) ps).started ≡ len (state_of c xs ps).started + 1 =
    len-insert id_total (state_of c xs ps).started x.1.id x.1.groups
    ∙ ap (λ o. cond (is_some o) (len (state_of c xs ps).started) (len (state_of c xs ps).started + 1)) new in
    omega (arith, one_more, rest)

-- ---- what is delivered

record FromFront (es : List Entry) (d : Delivered) : Type 0 where
  pub one : Entry
  pub there : In one es
  pub settled : one.1.missing ≡ 0
  pub is : d ≡ delivered one

from_front : (es : List Entry) (d : Delivered) → In d (front es) → FromFront es d
from_front [] d i = absurd i
from_front (x ∷ xs) d i = elim (x.1.missing == 0)
    as (λ b. (x.1.missing == 0) ≡ b → In d (cond b (delivered x ∷ front xs) []) → FromFront (x ∷ xs) d) [
      | true ↦ λ e. elim [
        | inl same ↦ record { one = x; there = inl refl; settled = eqb-true x.1.missing 0 e; is = same }
        | inr k ↦ let f = from_front xs d k in record { one = f.one; there = inr f.there; settled = f.settled; is = f.is }
      ]
      | false ↦ λ e j. absurd j
    ] refl i

ascends : (es : List Entry) → IsStrictlySortedBy stamp_cmp (keys_of es) → Ascending (front es)
ascends [] rise = tt
ascends (x ∷ xs) rise = elim (x.1.missing == 0) as (λ b. Ascending (cond b (delivered x ∷ front xs) [])) [
  | true ↦ (
    λ d i. let f = from_front xs d i in
        subst (λ (y : Delivered). stamp_lt x.0 y.stamp ≡ true) (sym f.is) (above_first x f.one xs rise f.there),
    ascends xs (sorted_tail stamp_cmp x.0 (keys_of xs) rise),
  )
  | false ↦ tt
]

module _ (me : ℕ) (f : RequestId → ℕ → Option ℕ) where
  abbrev Stand : List Entry → Type 0
  Stand es = (e : Entry) → In e es → StandsAt me (f e.1.id) e

  -- one that is settled stands at its final stamp, one that isn't at the group's own proposal
  at_final : (e : Entry) (s : Stamp) → StandsAt me (f e.1.id) e → final (f e.1.id) e.1.groups ≡ Some s → e.0 ≡ s
  at_final e s stands is = stands.place ∙ ap (λ o. place_by o (record { clock = or_zero (f e.1.id me); group = me })) is

  at_own : (e : Entry) → StandsAt me (f e.1.id) e → final (f e.1.id) e.1.groups ≡ None
      → e.0 ≡ record { clock = or_zero (f e.1.id me); group = me }
  at_own e stands is = stands.place ∙ ap (λ o. place_by o (record { clock = or_zero (f e.1.id me); group = me })) is

  waits : (e : Entry) → StandsAt me (f e.1.id) e → (e.1.missing == 0) ≡ false → final (f e.1.id) e.1.groups ≡ None
  waits e stands h = some_missing (f e.1.id) e.1.groups (λ z. both_ways _ h (eq-eqb e.1.missing 0 (stands.missing ∙ z)))

  settles : (e : Entry) → StandsAt me (f e.1.id) e → e.1.missing ≡ 0 → (s : Stamp) × (final (f e.1.id) e.1.groups ≡ Some s)
  settles e stands h = all_heard (f e.1.id) e.1.groups (sym stands.missing ∙ h)

  -- one in front stands before each that isn't settled
  before_open : (es : List Entry) (d : Delivered) (u : Entry) → IsStrictlySortedBy stamp_cmp (keys_of es) → Stand es → In d (front es)
      → In u es
      → final (f u.1.id) u.1.groups ≡ None → stamp_lt d.stamp u.0 ≡ true
  before_open [] d u rise stand i j none = absurd i
  before_open (x ∷ xs) d u rise stand i j none = elim (x.1.missing == 0)
      as (λ b. (x.1.missing == 0) ≡ b → In d (cond b (delivered x ∷ front xs) []) → stamp_lt d.stamp u.0 ≡ true) [
        | true ↦ λ e k.
            let settled = settles x (stand x (inl refl)) (eqb-true x.1.missing 0 e) in
            let behind_it : In u xs = elim j [
              | inl same ↦
                  let unsettled : final (f x.1.id) x.1.groups
                  ≡ None = subst (λ (y : Entry). final (f y.1.id) y.1.groups ≡ None) same none in
                  absurd (None≢Some settled.0 (sym unsettled ∙ settled.1))
              | inr there ↦ there
            ] in
            elim k [
              | inl same ↦ subst (λ (y : Delivered). stamp_lt y.stamp u.0 ≡ true) (sym same) (above_first x u xs rise behind_it)
              | inr l ↦ before_open xs d u (sorted_tail stamp_cmp x.0 (keys_of xs) rise) (λ y m. stand y (inr m)) l behind_it none
            ]
        | false ↦ λ e k. absurd k
      ] refl i

  -- one that stands before each that isn't settled is in front
  in_front : (es : List Entry) (e : Entry) (s : Stamp) → IsStrictlySortedBy stamp_cmp (keys_of es) → Stand es → In e es
      → final (f e.1.id) e.1.groups ≡ Some s → ((u : Entry) → In u es → final (f u.1.id) u.1.groups ≡ None → stamp_lt e.0 u.0 ≡ true)
      → In (delivered e) (front es)
  in_front [] e s rise stand i is below = absurd i
  in_front (x ∷ xs) e s rise stand i is below = elim (x.1.missing == 0)
      as (λ b. (x.1.missing == 0) ≡ b → In (delivered e) (cond b (delivered x ∷ front xs) [])) [
        | true ↦ λ h. elim i [
          | inl same ↦ inl (ap delivered same)
          | inr there ↦ inr (in_front xs e s (sorted_tail stamp_cmp x.0 (keys_of xs) rise) (λ y m. stand y (inr m)) there is
              (λ u j none. below u (inr j) none))
        ]
        | false ↦ λ h.
            let none = waits x (stand x (inl refl)) h in
            let less = below x (inl refl) none in
            absurd (elim i [
              | inl same ↦
                  let some : final (f x.1.id) x.1.groups ≡ Some s = subst (λ (y : Entry). final (f y.1.id) y.1.groups ≡ Some s) same is in
                  None≢Some s (sym none ∙ some)
              | inr there ↦ both_ways _ (lt_asym x.0 e.0 (above_first x e xs rise there)) less
            ])
      ] refl

abbrev told : List Entry → FinMap source_cmp ℕ → RequestId → ℕ → Option ℕ
told es ps = heard (state_of 0 es ps)

pub front_delivers : (me c : ℕ) (es : List Entry) (ps : FinMap source_cmp ℕ) → ArePlaced me es ps
    → Delivers me (state_of c es ps) (front es)
front_delivers me c es ps placed = record {
  ascending = ascends es placed.rise;
  only = λ d i.
      let it = from_front es d i in
      let stands = placed.stand it.one it.there in
      let s = settles me (told es ps) it.one stands it.settled in
      let id : d.id ≡ it.one.1.id = ap (λ (y : Delivered). y.id) it.is in record {
        started = started-state_of c es ps d.id ∙ ap (groups_in es) id ∙ finds es it.one placed.once it.there
            ∙ ap (λ (y : Delivered). Some y.groups) (sym it.is);
        stamp = ap (λ (y : Delivered). final (told es ps y.id) y.groups) it.is ∙ s.1
            ∙ ap Some (sym (at_final me (told es ps) it.one s.0 stands s.1) ∙ ap (λ (y : Delivered). y.stamp) (sym it.is));
        below = λ u gs there none.
            let a = found_as es u gs (sym (started-state_of c es ps u) ∙ there) in
            let unsettled : final (told es ps a.one.1.id) a.one.1.groups ≡ None = ap (λ j. final (told es ps j) a.one.1.groups) a.id
            ∙ ap (final (told es ps u)) a.groups ∙ none in
            subst (λ t. stamp_lt d.stamp t ≡ true) (at_own me (told es ps) a.one (placed.stand a.one a.there) unsettled
            ∙ ap (λ j. own_at me (state_of c es ps) j) a.id)
            (before_open me (told es ps) es d a.one placed.rise placed.stand i a.there unsettled);
      };
  all = λ d may.
      let a = found_as es d.id d.groups (sym (started-state_of c es ps d.id) ∙ may.started) in
      let some : final (told es ps a.one.1.id) a.one.1.groups ≡ Some d.stamp =
      ap (λ j. final (told es ps j) a.one.1.groups) a.id ∙ ap (final (told es ps d.id)) a.groups ∙ may.stamp in
      let place : a.one.0 ≡ d.stamp = at_final me (told es ps) a.one d.stamp (placed.stand a.one a.there) some in
      let same : delivered a.one ≡ d = λ k. record { id = a.id k; stamp = place k; groups = a.groups k } in
      subst (λ y. In y (front es)) same (in_front me (told es ps) es a.one d.stamp placed.rise placed.stand a.there some (λ u j none.
      subst (λ t. stamp_lt t u.0 ≡ true) (sym place)
      (subst (λ t. stamp_lt d.stamp t ≡ true) (sym (at_own me (told es ps) u (placed.stand u j) none))
      (may.below u.1.id u.1.groups (started-state_of c es ps u.1.id ∙ finds es u placed.once j) none))));
}
