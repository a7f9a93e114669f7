-- A part of a map: cut down to some keys, and put back. What a body does with one key or several is carried through
-- these.
use Rattle.std.proofs.Common.{◌≡◌, ℕ, List, [], ◌∷◌, Bool, true, false, cond, not, ◌||◌, Option, Some, None, refl, sym, ap, ◌∙◌}
use Rattle.std.proofs.lemmas.Cmp.{nat_list_cmp_total}
use Rattle.std.specs.Cmp.Lexicographic.{slice_cmp}
use Rattle.std.specs.FinMap as map
use Rattle.std.specs.FinMap.{get, insert, remove, entries, find, get-entries}
use Rattle.std.specs.Ordering.{nat_cmp, eq_by_cmp}
use Rattle.std.specs.Str.{bytes_eq}
use Rattle.keyspace.proofs.Gets.{same, same_bytes, bytes_eq-refl, get-set, get-retain_keys}
use Rattle.keyspace.specs.Map.{Map, among, restrict, without, with_entries, put_back, set, AreApart}
use Rattle.values.specs.declared.Value.{Value}

-- what is said, or the default where nothing is
pub or_else : Option Value → Option Value → Option Value
or_else None d = d
or_else (Some v) d = Some v

or_else-cond : (b : Bool) (v : Value) (o d : Option Value) → cond b (Some v) (or_else o d) ≡ or_else (cond b (Some v) o) d
unfolding or_else
or_else-cond true v o d = refl
or_else-cond false v o d = refl

pub or_else-none : (o : Option Value) → or_else o None ≡ o
unfolding or_else
or_else-none None = refl
or_else-none (Some v) = refl

-- the first where the test holds, else the second
or_else-parts : (b : Bool) (o p : Option Value) → or_else (cond b o None) (cond (not b) p None) ≡ cond b o p
unfolding or_else
or_else-parts true o p = or_else-none o
or_else-parts false o p = refl

-- with entries put in, a key has its first entry, or what it had
pub get-with_entries : (m : Map) (es : List (List ℕ × Value)) (q : List ℕ)
    → get (with_entries m es) q ≡ or_else (find (slice_cmp nat_cmp) q es) (get m q)
unfolding or_else
get-with_entries m [] q = refl
get-with_entries m (e ∷ es) q =
    map.get-insert nat_list_cmp_total (with_entries m es) e.0 e.1 q
    ∙ ap (cond (eq_by_cmp (slice_cmp nat_cmp) q e.0) (Some e.1)) (get-with_entries m es q)
    ∙ or_else-cond (eq_by_cmp (slice_cmp nat_cmp) q e.0) e.1 (find (slice_cmp nat_cmp) q es) (get m q)

pub get-restrict : (m : Map) (ks : List (List ℕ)) (q : List ℕ) → get (restrict m ks) q ≡ cond (among ks q) (get m q) None
get-restrict m ks q = get-retain_keys m (among ks) q

pub get-put_back : (m : Map) (ks : List (List ℕ)) (part : Map) (q : List ℕ)
    → get (put_back m ks part) q ≡ cond (among ks q) (get part q) (get m q)
get-put_back m ks part q =
    get-with_entries (without m ks) (entries (restrict part ks)) q
    ∙ ap (λ o. or_else o (get (without m ks) q)) (sym (get-entries (restrict part ks) q) ∙ get-restrict part ks q)
    ∙ ap (or_else (cond (among ks q) (get part q) None)) (get-retain_keys m (λ k. not (among ks k)) q)
    ∙ or_else-parts (among ks q) (get part q) (get m q)

-- what is read at one of the keys
pub get-restrict_here : (m : Map) (ks : List (List ℕ)) (k : List ℕ) → among ks k ≡ true → get (restrict m ks) k ≡ get m k
get-restrict_here m ks k h = get-restrict m ks k ∙ ap (λ b. cond b (get m k) None) h

pub get-put_back_here : (m : Map) (ks : List (List ℕ)) (part : Map) (k : List ℕ) → among ks k ≡ true
    → get (put_back m ks part) k ≡ get part k
get-put_back_here m ks part k h = get-put_back m ks part k ∙ ap (λ b. cond b (get part k) (get m k)) h

-- and beside them
pub get-put_back_beside : (m : Map) (ks : List (List ℕ)) (part : Map) (k : List ℕ) → among ks k ≡ false
    → get (put_back m ks part) k ≡ get m k
get-put_back_beside m ks part k h = get-put_back m ks part k ∙ ap (λ b. cond b (get part k) (get m k)) h

kept : (b : Bool) (o : Option Value) → cond b (cond b o None) o ≡ o
kept true o = refl
kept false o = refl

-- a part that nobody changed leaves the map as it was
pub put_back-restrict : (m : Map) (ks : List (List ℕ)) → put_back m ks (restrict m ks) ≡ m
put_back-restrict m ks =
    same (put_back m ks (restrict m ks)) m (λ q.
    get-put_back m ks (restrict m ks) q ∙ ap (λ o. cond (among ks q) o (get m q)) (get-restrict m ks q) ∙ kept (among ks q) (get m q))

both_tests : (a b : Bool) (x y z : Option Value) → (b ≡ true → a ≡ true) → cond a (cond b x y) z ≡ cond b x (cond a y z)
both_tests true b x y z within = refl
both_tests false b x y z within =
    elim b as (λ t. b ≡ t → z ≡ cond t x z) [
      | true ↦ λ e. ap (λ t. cond t x z) (within e)
      | false ↦ λ _. refl
    ] refl

pub among-first : (k : List ℕ) (ks : List (List ℕ)) → among (k ∷ ks) k ≡ true
among-first k ks = ap (λ b. b || among ks k) (bytes_eq-refl k)

-- whether a key is among some depends on its bytes alone
pub among-like : (ks : List (List ℕ)) (k q : List ℕ) → bytes_eq k q ≡ true → among ks k ≡ true → among ks q ≡ true
among-like ks k q e h = ap (among ks) (sym (same_bytes k q e)) ∙ h

-- a change at one of the keys may be made in the part or in the whole
pub put_back-set : (m : Map) (ks : List (List ℕ)) (part : Map) (k : List ℕ) (o : Option Value) → among ks k ≡ true
    → put_back m ks (set part k o) ≡ set (put_back m ks part) k o
put_back-set m ks part k o h =
    same (put_back m ks (set part k o)) (set (put_back m ks part) k o) (λ q.
    get-put_back m ks (set part k o) q ∙ ap (λ p. cond (among ks q) p (get m q)) (get-set part k o q)
    ∙ both_tests (among ks q) (bytes_eq k q) o (get part q) (get m q) (λ e. among-like ks k q e h)
    ∙ ap (cond (bytes_eq k q) o) (sym (get-put_back m ks part q)) ∙ sym (get-set (put_back m ks part) k o q))

pub put_back-insert : (m : Map) (ks : List (List ℕ)) (part : Map) (k : List ℕ) (v : Value) → among ks k ≡ true
    → put_back m ks (insert part k v) ≡ insert (put_back m ks part) k v
put_back-insert m ks part k v h = put_back-set m ks part k (Some v) h

pub put_back-remove : (m : Map) (ks : List (List ℕ)) (part : Map) (k : List ℕ) → among ks k ≡ true
    → put_back m ks (remove part k) ≡ remove (put_back m ks part) k
put_back-remove m ks part k h = put_back-set m ks part k None h

pub AreApart-swap : (ks js : List (List ℕ)) → AreApart ks js → AreApart js ks
AreApart-swap ks js apart k h =
    elim (among ks k) as (λ b. among ks k ≡ b → b ≡ false) [
      | true ↦ λ e. sym h ∙ apart k e
      | false ↦ λ _. refl
    ] refl

none_twice : (a b : Bool) (o p : Option Value) → (b ≡ true → a ≡ false) → cond b (cond a o p) None ≡ cond b p None
none_twice a true o p apart = ap (λ t. cond t o p) (apart refl)
none_twice a false o p apart = refl

in_either_order : (a b : Bool) (x y z : Option Value) → (a ≡ true → b ≡ false) → cond b y (cond a x z) ≡ cond a x (cond b y z)
in_either_order true b x y z apart = ap (λ t. cond t y x) (apart refl)
in_either_order false b x y z apart = refl

-- two parts with no key in common: the one is read as before the other was put back, and they are put back in either
-- order
pub restrict-put_back_apart : (m : Map) (ks js : List (List ℕ)) (part : Map) → AreApart ks js
    → restrict (put_back m ks part) js ≡ restrict m js
restrict-put_back_apart m ks js part apart =
    same (restrict (put_back m ks part) js) (restrict m js) (λ q.
    get-restrict (put_back m ks part) js q ∙ ap (λ o. cond (among js q) o None) (get-put_back m ks part q)
    ∙ none_twice (among ks q) (among js q) (get part q) (get m q) (AreApart-swap ks js apart q) ∙ sym (get-restrict m js q))

pub put_back-put_back_apart : (m : Map) (ks js : List (List ℕ)) (part other : Map) → AreApart ks js
    → put_back (put_back m ks part) js other ≡ put_back (put_back m js other) ks part
put_back-put_back_apart m ks js part other apart =
    same (put_back (put_back m ks part) js other) (put_back (put_back m js other) ks part) (λ q.
    get-put_back (put_back m ks part) js other q ∙ ap (cond (among js q) (get other q)) (get-put_back m ks part q)
    ∙ in_either_order (among ks q) (among js q) (get part q) (get other q) (get m q) (apart q)
    ∙ ap (cond (among ks q) (get part q)) (sym (get-put_back m js other q)) ∙ sym (get-put_back (put_back m js other) ks part q))
