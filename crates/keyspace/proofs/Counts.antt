-- How many of some keys a map has, one key after another.
use Rattle.std.proofs.Common.{◌≡◌, ℕ, ◌+◌, List, [], ◌∷◌, Bool, true, false, cond, not, ◌||◌, Option, Some, None, is_some, arith, refl, sym}
use Rattle.std.proofs.Common.{ap, ◌∙◌}
use Rattle.std.proofs.lemmas.Cmp.{nat_list_cmp_total}
use Rattle.std.specs.FinMap.{get, remove, len, len-insert, len-empty}
use Rattle.std.specs.Cmp.Lexicographic.{slice_cmp}
use Rattle.std.specs.FinMap as map
use Rattle.std.specs.Ordering.{nat_cmp}
use Rattle.std.specs.Str.{bytes_eq}
use Rattle.keyspace.proofs.Changes.{remove-none, get-remove_here}
use Rattle.keyspace.proofs.Gets.{same, same_bytes, bytes_eq-swap, get-remove, get-set, get-retain_keys}
use Rattle.keyspace.proofs.Parts.{get-restrict}
use Rattle.keyspace.specs.Map.{Map, among, restrict, without, set}
use Rattle.values.specs.declared.Value.{Value}

none_either_way : (b : Bool) → cond b None None ≡ (let none : Option Value = None in none)
none_either_way true = refl
none_either_way false = refl

-- a value more, or none
len-set_new : (m : Map) (k : List ℕ) (o : Option Value) → get m k ≡ None → len (set m k o) ≡ cond (is_some o) 1 0 + len m
len-set_new m k None e = let same_len : len (remove m k) ≡ len m = ap len (remove-none m k e) in omega (arith, same_len)
len-set_new m k (Some v) e =
    let one_more : len (set m k (Some v)) ≡ len m + 1 = len-insert nat_list_cmp_total m k v
    ∙ ap (λ o. cond (is_some o) (len m) (len m + 1)) e in
    omega (arith, one_more)

without_each : (a b : Bool) (o : Option Value) → cond (not (a || b)) o None ≡ cond (not b) (cond a None o) None
without_each true true o = refl
without_each true false o = refl
without_each false b o = refl

-- to remove some keys is to remove the first and then the others
pub without-cons : (m : Map) (k : List ℕ) (ks : List (List ℕ)) → without m (k ∷ ks) ≡ without (remove m k) ks
without-cons m k ks =
    same (without m (k ∷ ks)) (without (remove m k) ks) (λ q.
    get-retain_keys m (λ key. not (among (k ∷ ks) key)) q
    ∙ ap (λ b. cond (not (b || among ks q)) (get m q) None) (bytes_eq-swap q k)
    ∙ without_each (bytes_eq k q) (among ks q) (get m q)
    ∙ ap (λ o. cond (not (among ks q)) o None) (sym (get-remove m k q))
    ∙ sym (get-retain_keys (remove m k) (λ key. not (among ks key)) q))

pub without-nil : (m : Map) → without m [] ≡ m
without-nil m = same (without m []) m (λ q. get-retain_keys m (λ key. not (among [] key)) q)

restrict_each : (m : Map) (k q : List ℕ) (b : Bool)
    → cond (bytes_eq k q || b) (get m q) None ≡ cond (bytes_eq k q) (get m k) (cond b (cond (bytes_eq k q) None (get m q)) None)
restrict_each m k q b =
    elim (bytes_eq k q) as (λ t. bytes_eq k q ≡ t → cond (t || b) (get m q) None ≡ cond t (get m k) (cond b (cond t None (get m q)) None)) [
      | true ↦ λ e. ap (get m) (sym (same_bytes k q e))
      | false ↦ λ _. refl
    ] refl

restrict-cons : (m : Map) (k : List ℕ) (ks : List (List ℕ)) → restrict m (k ∷ ks) ≡ set (restrict (remove m k) ks) k (get m k)
restrict-cons m k ks =
    same (restrict m (k ∷ ks)) (set (restrict (remove m k) ks) k (get m k)) (λ q.
    get-restrict m (k ∷ ks) q
    ∙ ap (λ b. cond (b || among ks q) (get m q) None) (bytes_eq-swap q k)
    ∙ restrict_each m k q (among ks q)
    ∙ ap (λ o. cond (bytes_eq k q) (get m k) (cond (among ks q) o None)) (sym (get-remove m k q))
    ∙ ap (cond (bytes_eq k q) (get m k)) (sym (get-restrict (remove m k) ks q))
    ∙ sym (get-set (restrict (remove m k) ks) k (get m k) q))

-- of some keys, those that are there are the first, if it is, and then those among the others that aren't the first
pub len-restrict-cons : (m : Map) (k : List ℕ) (ks : List (List ℕ))
    → len (restrict m (k ∷ ks)) ≡ cond (is_some (get m k)) 1 0 + len (restrict (remove m k) ks)
len-restrict-cons m k ks =
    let gone : get (restrict (remove m k) ks) k ≡ None =
    get-restrict (remove m k) ks k ∙ ap (λ o. cond (among ks k) o None) (get-remove_here m k) ∙ none_either_way (among ks k) in
    ap len (restrict-cons m k ks) ∙ len-set_new (restrict (remove m k) ks) k (get m k) gone

pub len-restrict-nil : (m : Map) → len (restrict m []) ≡ 0
len-restrict-nil m =
    ap len (same (restrict m []) map.empty (λ q. get-restrict m [] q ∙ sym (map.get-empty (slice_cmp nat_cmp) q)))
    ∙ len-empty (slice_cmp nat_cmp) Value
