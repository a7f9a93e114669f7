-- The lists of proposals by request, as a map from requests and groups to clocks.
use Rattle.std.proofs.Common.{◌≡◌, ◌↔◌, IsTrue, ℕ, ◌<◌, ◌==◌, ◌&&◌, ◌||◌, Bool, true, false, cond, not}
use Rattle.std.proofs.Common.{List, [], ◌∷◌, ◌++◌, Option, Some}
use Rattle.std.proofs.Common.{None, IsSome, is_some, suc, ◌⊎◌, length, refl, sym, ap, ◌∙◌, subst, arith, inl, inr, eq-eqb, eqb-true}
use Rattle.std.proofs.Common.{length-append}
use Rattle.std.proofs.lemmas.Bool.{both_ways, cases_Bool, and_parts, and_from, or_cases}
use Rattle.std.proofs.lemmas.Map.{lookup-none}
use Rattle.std.proofs.lemmas.Map.Entries.{none_past_head}
use Rattle.std.proofs.lemmas.Map.Keys.{IsDistinct-tail}
use Rattle.std.specs.Cmp.{IsEquivalence}
use Rattle.std.specs.FinMap.{FinMap, get, insert, find, from_entries, retain_keys, get-insert, get-from_entries, get-retain_keys, same_map}
use Rattle.std.specs.List.{IsDistinct}
use Rattle.std.specs.Map.{keys_of, lookup}
use Rattle.groups.specs.declared.request.RequestId.{RequestId}
use Rattle.groups.specs.Order.{In}
use Rattle.groups.specs.Request.{same_id, Source, source_cmp}
use Rattle.groups.proofs.Ids.{source_total, source_antisym, source_tied, same_id-true, eq-same_id, same_id-sym, same_id-refl}
use Rattle.skeen_core.specs.Group.{EachOnce}
use Rattle.skeen_core.specs.Heard.{clock_of}
use Rattle.skeen_core.specs.Proposals.{sources_of, clocks_of, AreLists, CountsNamed, is_clock, are_single}
use Rattle.skeen_core.specs.declared.heard.Heard.{Heard}
use Rattle.skeen_core.proofs.Finite.{turned}
use Rattle.skeen_core.proofs.Entries.{found, stands, not_first}

abbrev pub Lists : Type 0
Lists = List (RequestId × List Heard)

abbrev pub source : RequestId → ℕ → Source
source i g = record { id = i; from = g }

-- the list of a request
abbrev pub or_empty : Option (List Heard) → List Heard
or_empty None = []
or_empty (Some ps) = ps

abbrev pub list_at : Lists → RequestId → Option (List Heard)
list_at es i = lookup (same_id i) es

abbrev or_else : Option ℕ → Option ℕ → Option ℕ
or_else None o = o
or_else (Some n) o = Some n

or_none : (o : Option ℕ) → or_else o None ≡ o
or_none None = refl
or_none (Some n) = refl

find_list : (i j : RequestId) (g : ℕ) (ps : List Heard) (rest : List (Source × ℕ))
    → find source_cmp (source i g) (sources_of j ps ++ rest)
    ≡ cond (same_id i j) (or_else (clock_of ps g) (find source_cmp (source i g) rest)) (find source_cmp (source i g) rest)
find_list i j g [] rest = elim (same_id i j) as (λ b. find source_cmp (source i g) rest
    ≡ cond b (find source_cmp (source i g) rest) (find source_cmp (source i g) rest)) [ true ↦ refl | false ↦ refl ]
find_list i j g (p ∷ ps) rest =
    ap (λ b. cond b (Some p.clock) (find source_cmp (source i g) (sources_of j ps ++ rest))) (source_tied (source i g) (source j p.from))
    ∙ ap (cond (same_id i j && g == p.from) (Some p.clock)) (find_list i j g ps rest) ∙ elim (same_id i j) as
    (λ b. cond (b && g == p.from) (Some p.clock)
    (cond b (or_else (clock_of ps g) (find source_cmp (source i g) rest)) (find source_cmp (source i g) rest))
    ≡ cond b (or_else (clock_of (p ∷ ps) g) (find source_cmp (source i g) rest)) (find source_cmp (source i g) rest)) [
      | true ↦ elim (g == p.from) as (λ b. cond b (Some p.clock) (or_else (clock_of ps g) (find source_cmp (source i g) rest))
          ≡ or_else (cond b (Some p.clock) (clock_of ps g)) (find source_cmp (source i g) rest)) [ true ↦ refl | false ↦ refl ]
      | false ↦ refl
    ]

pub id_equal : IsEquivalence same_id
id_equal = record {
  refl = same_id-refl;
  symm = same_id-sym;
  congr = λ i j k e. ap (λ x. same_id x k) (same_id-true i j e);
}

find_all : (es : Lists) (i : RequestId) (g : ℕ) → IsDistinct same_id (keys_of es)
    → find source_cmp (source i g) (clocks_of es) ≡ clock_of (or_empty (list_at es i)) g
find_all [] i g once = refl
find_all (e ∷ es) i g once =
    let rest = find_all es i g (IsDistinct-tail same_id e.0 (keys_of es) once) in
    find_list i e.0 g e.1 (clocks_of es)
    ∙ elim (same_id i e.0) as (λ b. same_id i e.0 ≡ b
    → cond b (or_else (clock_of e.1 g) (find source_cmp (source i g) (clocks_of es)))
    (find source_cmp (source i g) (clocks_of es))
    ≡ clock_of (or_empty (cond b (Some e.1) (list_at es i))) g) [
      | true ↦ λ p.
          let none : list_at es i ≡ None = lookup-none (same_id i) es (none_past_head id_equal i e es once p) in
          ap (or_else (clock_of e.1 g)) (rest ∙ ap (λ o. clock_of (or_empty o) g) none) ∙ or_none (clock_of e.1 g)
      | false ↦ λ p. rest
    ] refl

abbrev pub shown : Lists → FinMap source_cmp ℕ
shown es = from_entries (clocks_of es)

pub get_shown : (es : Lists) (i : RequestId) (g : ℕ) → IsDistinct same_id (keys_of es)
    → get (shown es) (source i g) ≡ clock_of (or_empty (list_at es i)) g
get_shown es i g once = get-from_entries source_total (clocks_of es) (source i g) ∙ find_all es i g once

-- ---- one request's list changed

-- the lists es' have w as the list of id, and the others of es
pub record Changed (id : RequestId) (w : Option (List Heard)) (es es' : Lists) : Type 0 where
  pub once : IsDistinct same_id (keys_of es')
  pub at : (q : RequestId) → list_at es' q ≡ cond (same_id id q) w (list_at es q)

pub get_changed : (id : RequestId) (w : Option (List Heard)) (es es' : Lists) → AreLists es → Changed id w es es' → (i : RequestId) (g : ℕ)
    → get (shown es') (source i g) ≡ cond (same_id i id) (clock_of (or_empty w) g) (get (shown es) (source i g))
get_changed id w es es' lists changed i g =
    get_shown es' i g changed.once ∙ ap (λ o. clock_of (or_empty o) g) (changed.at i)
    ∙ ap (λ b. clock_of (or_empty (cond b w (list_at es i))) g) (same_id-sym id i)
    ∙ elim (same_id i id) as (λ b. clock_of (or_empty (cond b w (list_at es i))) g
    ≡ cond b (clock_of (or_empty w) g) (get (shown es) (source i g))) [
      | true ↦ refl
      | false ↦ sym (get_shown es i g lists.once)
    ]

pub lists_changed : (id : RequestId) (w : Option (List Heard)) (es es' : Lists) → AreLists es → Changed id w es es'
    → ((ps : List Heard) → w ≡ Some ps → 0 < length ps) → AreLists es'
lists_changed id w es es' lists changed some = record {
  once = changed.once;
  some = λ e there. by_key e there (cases_Bool (same_id id e.0));
}
  where
    by_key : (e : RequestId × List Heard) → In e es' → (same_id id e.0 ≡ true) ⊎ (same_id id e.0 ≡ false) → 0 < length e.1
    by_key e there (inl p) = some e.1 (sym (ap (λ b. cond b w (list_at es e.0)) p) ∙ sym (changed.at e.0)
        ∙ found id_equal es' e changed.once there)
    by_key e there (inr p) = lists.some (e.0, e.1) (stands same_id-true es e.0 e.1 (sym (ap (λ b. cond b w (list_at es e.0)) p)
        ∙ sym (changed.at e.0) ∙ found id_equal es' e changed.once there))

-- ---- a proposal more

pub clock_of-push : (ps : List Heard) (p : Heard) (g : ℕ) → clock_of ps p.from ≡ None
    → clock_of (ps ++ p ∷ []) g ≡ cond (g == p.from) (Some p.clock) (clock_of ps g)
clock_of-push [] p g none = refl
clock_of-push (x ∷ xs) p g none = elim (p.from == x.from) as (λ b. (p.from == x.from) ≡ b
    → cond b (Some x.clock) (clock_of xs p.from) ≡ None
    → cond (g == x.from) (Some x.clock) (clock_of (xs ++ p ∷ []) g) ≡ cond (g == p.from) (Some p.clock) (clock_of (x ∷ xs) g)) [
      | true ↦ λ e d. absurd (cc)
      | false ↦ λ e d. ap (cond (g == x.from) (Some x.clock)) (clock_of-push xs p g d) ∙ apart e
    ] refl none
  where
    apart : (p.from == x.from) ≡ false → cond (g == x.from) (Some x.clock) (cond (g == p.from) (Some p.clock) (clock_of xs g))
        ≡ cond (g == p.from) (Some p.clock) (cond (g == x.from) (Some x.clock) (clock_of xs g))
    apart e = elim (g == p.from) as (λ b. (g == p.from) ≡ b → cond (g == x.from) (Some x.clock) (cond b (Some p.clock) (clock_of xs g))
        ≡ cond b (Some p.clock) (cond (g == x.from) (Some x.clock) (clock_of xs g))) [
          | true ↦ λ d. ap (λ b. cond b (Some x.clock) (Some p.clock)) (ap (λ h. h == x.from) (eqb-true g p.from d) ∙ e)
          | false ↦ λ d. refl
        ] refl

pub added : (id : RequestId) (p : Heard) (es es' : Lists) → AreLists es → Changed id (Some (or_empty (list_at es id) ++ p ∷ [])) es es'
    → get (shown es) (source id p.from) ≡ None → shown es' ≡ insert (shown es) (source id p.from) p.clock
added id p es es' lists changed none = same_map source_total source_antisym (shown es') (insert (shown es) (source id p.from) p.clock)
    (λ s. get_changed id (Some (or_empty (list_at es id) ++ p ∷ [])) es es' lists changed s.id s.from
    ∙ by_id s (cases_Bool (same_id s.id id))
    ∙ sym (get-insert source_total (shown es) (source id p.from) p.clock s
    ∙ ap (λ b. cond b (Some p.clock) (get (shown es) s)) (source_tied s (source id p.from))))
  where
    by_id : (s : Source) → (same_id s.id id ≡ true) ⊎ (same_id s.id id ≡ false)
        → cond (same_id s.id id) (clock_of (or_empty (list_at es id) ++ p ∷ []) s.from) (get (shown es) s)
        ≡ cond (same_id s.id id && s.from == p.from) (Some p.clock) (get (shown es) s)
    by_id s (inl e) =
        ap (λ b. cond b (clock_of (or_empty (list_at es id) ++ p ∷ []) s.from) (get (shown es) s)) e
        ∙ clock_of-push (or_empty (list_at es id)) p s.from (sym (get_shown es id p.from lists.once) ∙ none)
        ∙ ap (cond (s.from == p.from) (Some p.clock)) (sym (get_shown es id s.from lists.once)
        ∙ ap (λ i. get (shown es) (source i s.from)) (sym (same_id-true s.id id e)))
        ∙ ap (λ b. cond (b && s.from == p.from) (Some p.clock) (get (shown es) s)) (sym e)
    by_id s (inr e) =
        ap (λ b. cond b (clock_of (or_empty (list_at es id) ++ p ∷ []) s.from) (get (shown es) s)) e
        ∙ ap (λ b. cond (b && s.from == p.from) (Some p.clock) (get (shown es) s)) (sym e)

pub longer : (ps : List Heard) (p : Heard) (qs : List Heard) → Some (ps ++ p ∷ []) ≡ Some qs → 0 < length qs
longer ps p qs e =
    let same : ps ++ p ∷ [] ≡ qs = cc in
    let long = length-append ps (p ∷ []) in subst (λ l. 0 < length l) same (omega arith)

-- ---- a request's proposals forgotten

pub forgot : (id : RequestId) (es es' : Lists) → AreLists es → Changed id None es es'
    → shown es' ≡ retain_keys (shown es) (λ s. not (same_id id s.id))
forgot id es es' lists changed = same_map source_total source_antisym (shown es') (retain_keys (shown es) (λ s. not (same_id id s.id)))
    (λ s. get_changed id None es es' lists changed s.id s.from ∙ ap (λ b. cond b None (get (shown es) s)) (same_id-sym s.id id)
    ∙ sym (get-retain_keys (shown es) (λ t. not (same_id id t.id)) s
    (λ t e. ap (λ (u : Source). not (same_id id u.id)) (sym (source_antisym s t e))) ∙ turned (same_id id s.id) (get (shown es) s)))

-- ---- reads

ids_once : (es : Lists) → IsDistinct same_id (keys_of es) → EachOnce (keys_of es)
ids_once [] once = tt
ids_once (e ∷ es) once = (
  λ there. absurd (both_ways _ (none there) (same_id-refl e.0)),
  ids_once es (IsDistinct-tail same_id e.0 (keys_of es) once),
)
  where
    entry : (fs : Lists) → In e.0 (keys_of fs) → (v : List Heard) × In (e.0, v) fs
    entry [] there = absurd there
    entry (f ∷ fs) (inl same) = (f.1, inl (λ i. (same i, f.1)))
    entry (f ∷ fs) (inr there) = let rest = entry fs there in (rest.0, inr rest.1)

    none : In e.0 (keys_of es) → same_id e.0 e.0 ≡ false
    none there = let it = entry es there in not_first id_equal e (e.0, it.0) es once it.1

first_clock : (ps : List Heard) → 0 < length ps → (g : ℕ) × IsSome (clock_of ps g)
first_clock [] some = absurd (omega arith)
first_clock (p ∷ ps) some = (p.from, ap (λ b. is_some (cond b (Some p.clock) (clock_of ps p.from))) (eq-eqb p.from p.from refl))

key_in : (es : Lists) (i : RequestId) (v : List Heard) → In (i, v) es → In i (keys_of es)
key_in [] i v there = absurd there
key_in (e ∷ es) i v (inl same) = inl (ap (λ x. x.0) same)
key_in (e ∷ es) i v (inr there) = inr (key_in es i v there)

in_key : (es : Lists) (i : RequestId) → In i (keys_of es) → (v : List Heard) × In (i, v) es
in_key [] i there = absurd there
in_key (e ∷ es) i (inl same) = (e.1, inl (λ k. (same k, e.1)))
in_key (e ∷ es) i (inr there) = let rest = in_key es i there in (rest.0, inr rest.1)

listed : (es : Lists) (i : RequestId) (g : ℕ) (o : Option (List Heard)) → list_at es i ≡ o → IsSome (clock_of (or_empty o) g)
    → In i (keys_of es)
listed es i g None e some = absurd (both_ways _ refl some)
listed es i g (Some v) e some = key_in es i v (stands same_id-true es i v e)

length-keys : (es : Lists) → length (keys_of es) ≡ length es
length-keys [] = refl
length-keys (e ∷ es) = ap suc (length-keys es)

pub counted : (es : Lists) (n : ℕ) → AreLists es → n ≡ length es → CountsNamed (shown es) n
counted es n lists count = record {
  ids = keys_of es;
  once = ids_once es lists.once;
  named = λ i. (
    λ there.
        let v = in_key es i there in
        let at : list_at es i ≡ Some v.0 = found id_equal es (i, v.0) lists.once v.1 in
        let first = first_clock v.0 (lists.some (i, v.0) v.1) in
        (first.0, subst (λ o. IsSome o) (sym (get_shown es i first.0 lists.once ∙ ap (λ o. clock_of (or_empty o) first.0) at)) first.1),
    λ it. listed es i it.0 (list_at es i) refl (subst (λ o. IsSome o) (get_shown es i it.0 lists.once) it.1),
  );
  count = length-keys es ∙ sym count;
}

-- the list of id is as it was
pub same_lists : (id : RequestId) (w : Option (List Heard)) (es es' : Lists) → AreLists es → Changed id w es es' → list_at es id ≡ w
    → shown es' ≡ shown es
same_lists id w es es' lists changed same = same_map source_total source_antisym (shown es') (shown es)
    (λ s. get_changed id w es es' lists changed s.id s.from ∙ by_id s (cases_Bool (same_id s.id id)))
  where
    by_id : (s : Source) → (same_id s.id id ≡ true) ⊎ (same_id s.id id ≡ false)
        → cond (same_id s.id id) (clock_of (or_empty w) s.from) (get (shown es) s) ≡ get (shown es) s
    by_id s (inl e) =
        ap (λ b. cond b (clock_of (or_empty w) s.from) (get (shown es) s)) e ∙ ap (λ o. clock_of (or_empty o) s.from) (sym same)
        ∙ sym (get_shown es id s.from lists.once) ∙ ap (λ i. get (shown es) (source i s.from)) (sym (same_id-true s.id id e))
    by_id s (inr e) = ap (λ b. cond b (clock_of (or_empty w) s.from) (get (shown es) s)) e

-- ---- the test of a single proposal

clock_is : (o : Option ℕ) (n : ℕ) → is_clock o n ≡ true → o ≡ Some n
clock_is None n e = absurd (both_ways _ refl e)
clock_is (Some m) n e = ap Some (eqb-true m n e)

is_its_clock : (o : Option ℕ) (n : ℕ) → o ≡ Some n → is_clock o n ≡ true
is_its_clock o n e = ap (λ r. is_clock r n) e ∙ eq-eqb n n refl

or_left : (a b : Bool) → a ≡ true → (a || b) ≡ true
or_left true b e = refl
or_left false b e = absurd (both_ways _ refl e)

or_right : (a b : Bool) → b ≡ true → (a || b) ≡ true
or_right true b e = refl
or_right false b e = e

single_at : (id : RequestId) (from n : ℕ) (es : Lists) → are_single id from n es ≡ true → (e : RequestId × List Heard) → In e es
    → clock_of e.1 from ≡ Some n → e.0 ≡ id
single_at id from n [] single e there is = absurd there
single_at id from n (x ∷ xs) single e (inl same) is =
    elim (or_cases (same_id x.0 id) (not (is_clock (clock_of x.1 from) n))
    (and_parts (same_id x.0 id || not (is_clock (clock_of x.1 from) n)) (are_single id from n xs) single).0) [
      | inl named ↦ ap (λ y. y.0) same ∙ same_id-true x.0 id named
      | inr isnt ↦ absurd (both_ways _ (ap not (is_its_clock (clock_of x.1 from) n (ap (λ y. clock_of y.1 from) (sym same) ∙ is))) isnt)
    ]
single_at id from n (x ∷ xs) single e (inr there) is =
    single_at id from n xs (and_parts (same_id x.0 id || not (is_clock (clock_of x.1 from) n))
    (are_single id from n xs) single).1 e there is

at_single : (id : RequestId) (from n : ℕ) (es : Lists)
    → ((e : RequestId × List Heard) → In e es → clock_of e.1 from ≡ Some n → e.0 ≡ id) → are_single id from n es ≡ true
at_single id from n [] single = refl
at_single id from n (x ∷ xs) single = and_from _ _ (elim (cases_Bool (is_clock (clock_of x.1 from) n)) [
  | inl is ↦ or_left (same_id x.0 id) (not (is_clock (clock_of x.1 from) n))
      (eq-same_id x.0 id (single x (inl refl) (clock_is (clock_of x.1 from) n is)))
  | inr isnt ↦ or_right (same_id x.0 id) (not (is_clock (clock_of x.1 from) n)) (ap not isnt)
]) (at_single id from n xs (λ e there. single e (inr there)))

pub single_is : (es : Lists) (id : RequestId) (from n : ℕ) (r : Bool) → AreLists es → r ≡ are_single id from n es
    → IsTrue r ↔ ((i : RequestId) → get (shown es) (source i from) ≡ Some n → i ≡ id)
single_is es id from n r lists is = (
  λ h i told. by_list h i (list_at es i) refl (sym (get_shown es i from lists.once) ∙ told),
  λ single. is ∙ at_single id from n es (λ e there told. single e.0 (get_shown es e.0 from lists.once
      ∙ ap (λ o. clock_of (or_empty o) from) (found id_equal es e lists.once there) ∙ told)),
)
  where
    by_list : IsTrue r → (i : RequestId) (o : Option (List Heard)) → list_at es i ≡ o → clock_of (or_empty o) from ≡ Some n → i ≡ id
    by_list h i None e told = absurd (cc)
    by_list h i (Some v) e told = single_at id from n es (sym is ∙ h) (i, v) (stands same_id-true es i v e) told
