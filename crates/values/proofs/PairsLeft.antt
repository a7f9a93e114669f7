-- What is left of a table's pairs where many fields are removed in one walk.
use Rattle.std.proofs.Common.{◌≡◌, ℕ, Bool, true, false, cond, not, ◌&&◌, ◌||◌, List, [], ◌∷◌, refl, sym, ap, ◌∙◌}
use Rattle.std.proofs.lemmas.Map.Made.{IsDistinct-keys_filter}
use Rattle.std.proofs.lemmas.Slice.Eq.{bytes_eq-Decides}
use Rattle.std.specs.Cmp.Lexicographic.{nat_list_eq_equiv}
use Rattle.std.specs.Global.{Vec}
use Rattle.std.specs.List.{IsDistinct, AllByRecursion, filter}
use Rattle.std.specs.Map.{keys_of}
use Rattle.std.specs.Str.{bytes_eq}
use Rattle.texts.specs.Texts.{Bytes}
use Rattle.values.specs.HashValue.{pairs_seen, without_field, without_fields}
use Rattle.values.specs.SetValue.{is_member}

-- a pair whose field is none of these
abbrev pub stays : List Bytes → Bytes × Bytes → Bool
stays fields pair = not (is_member fields pair.0)

-- pairs whose fields are all other than this one
apart-stay : (field other : Bytes) (pairs : List (Bytes × Bytes)) → field ≡ other
    → AllByRecursion (λ y. bytes_eq other y ≡ false) (keys_of pairs)
    → filter (λ p. not (bytes_eq field p.0)) pairs ≡ pairs
apart-stay field other [] same apart = refl
apart-stay field other (p ∷ pairs) same apart =
    ap (λ b. cond (not b) (p ∷ filter (λ q. not (bytes_eq field q.0)) pairs) (filter (λ q. not (bytes_eq field q.0)) pairs))
    (ap (λ f. bytes_eq f p.0) same ∙ apart.0)
    ∙ ap (λ l. p ∷ l) (apart-stay field other pairs same apart.1)

-- a field that stands once at most is removed by going over all
without-one : (field : Bytes) (pairs : List (Bytes × Bytes)) → IsDistinct bytes_eq (keys_of pairs)
    → without_field pairs field ≡ filter (λ p. not (bytes_eq field p.0)) pairs
unfolding IsDistinct
without-one field [] distinct = refl
without-one field (p ∷ pairs) distinct =
    elim (bytes_eq field p.0)
    as (λ b. bytes_eq field p.0 ≡ b → cond b pairs (p ∷ without_field pairs field)
    ≡ cond (not b) (p ∷ filter (λ q. not (bytes_eq field q.0)) pairs) (filter (λ q. not (bytes_eq field q.0)) pairs)) [
      | true ↦ λ e. sym (apart-stay field p.0 pairs ((bytes_eq-Decides field p.0).0 e) distinct.0)
      | false ↦ λ e. ap (λ l. p ∷ l) (without-one field pairs distinct.1)
    ] refl

filter-twice : {A : Type 0} (first second : A → Bool) (xs : List A)
    → filter second (filter first xs) ≡ filter (λ x. first x && second x) xs
filter-twice first second [] = refl
filter-twice first second (x ∷ xs) =
    elim (first x)
    as (λ b. filter second (cond b (x ∷ filter first xs) (filter first xs))
    ≡ cond (b && second x) (x ∷ filter (λ y. first y && second y) xs) (filter (λ y. first y && second y) xs)) [
      | true ↦ ap (λ l. cond (second x) (x ∷ l) l) (filter-twice first second xs)
      | false ↦ filter-twice first second xs
    ]

pub filter-alike : {A : Type 0} (first second : A → Bool) → ((x : A) → first x ≡ second x) → (xs : List A)
    → filter first xs ≡ filter second xs
filter-alike first second same [] = refl
filter-alike first second same (x ∷ xs) =
    ap (λ b. cond b (x ∷ filter first xs) (filter first xs)) (same x)
    ∙ ap (λ l. cond (second x) (x ∷ l) l) (filter-alike first second same xs)

filter-all : {A : Type 0} (xs : List A) → filter (λ x. true) xs ≡ xs
filter-all [] = refl
filter-all (x ∷ xs) = ap (λ l. x ∷ l) (filter-all xs)

neither-one : (a b : Bool) → (not a && not b) ≡ not (a || b)
neither-one true b = refl
neither-one false b = refl

-- the fields removed one after another leave the pairs with other fields
pub without-each : (fields : List Bytes) (pairs : List (Bytes × Bytes)) → IsDistinct bytes_eq (keys_of pairs)
    → without_fields pairs fields ≡ filter (stays fields) pairs
without-each [] pairs distinct = sym (filter-all pairs)
without-each (field ∷ fields) pairs distinct =
    let is_other : Bytes × Bytes → Bool = λ p. not (bytes_eq field p.0) in
    ap (λ l. without_fields l fields) (without-one field pairs distinct)
    ∙ without-each fields (filter is_other pairs) (IsDistinct-keys_filter bytes_eq is_other pairs distinct)
    ∙ filter-twice is_other (stays fields) pairs
    ∙ filter-alike (λ p. is_other p && stays fields p) (stays (field ∷ fields))
    (λ p. ap (λ b. not b && stays fields p) (nat_list_eq_equiv.symm field p.0)
    ∙ neither-one (bytes_eq p.0 field) (is_member fields p.0)) pairs

-- what is kept of a table's entries, seen as pairs
pub kept-seen : (test : Bytes × Bytes → Bool) (es : List (Bytes × Vec ℕ))
    → pairs_seen (filter (λ e. test (e.0, e.1.items)) es) ≡ filter test (pairs_seen es)
kept-seen test [] = refl
kept-seen test (e ∷ es) =
    elim (test (e.0, e.1.items))
    as (λ b. pairs_seen (cond b (e ∷ filter (λ f. test (f.0, f.1.items)) es) (filter (λ f. test (f.0, f.1.items)) es))
    ≡ cond b ((e.0, e.1.items) ∷ filter test (pairs_seen es)) (filter test (pairs_seen es))) [
      | true ↦ ap (λ l. (e.0, e.1.items) ∷ l) (kept-seen test es)
      | false ↦ kept-seen test es
    ]
