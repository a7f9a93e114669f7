-- What a map has at a key, by the comparison of bytes, and that this is all there is to a map.
use Rattle.std.proofs.Common.{◌≡◌, ℕ, List, Bool, true, false, cond, Option, Some, None, refl, sym, ap, ◌∙◌}
use Rattle.std.proofs.lemmas.Cmp.{nat_list_cmp_total, nat_list_eq_equiv}
use Rattle.std.proofs.lemmas.Map.Text.{is_eq-slice_cmp}
use Rattle.std.proofs.lemmas.Slice.Eq.{bytes_eq-Decides}
use Rattle.std.specs.FinMap as map
use Rattle.std.specs.FinMap.{get, insert, remove, retain_keys, same_map, slice_cmp-IsAntisymmetric, nat_cmp-IsAntisymmetric}
use Rattle.std.specs.Str.{bytes_eq}
use Rattle.keyspace.specs.Map.{Map, set}
use Rattle.values.specs.declared.Value.{Value}

-- two maps that have the same at each key are one map
pub same : (m n : Map) → ((q : List ℕ) → get m q ≡ get n q) → m ≡ n
same = same_map nat_list_cmp_total (slice_cmp-IsAntisymmetric nat_cmp-IsAntisymmetric)

pub bytes_eq-refl : (k : List ℕ) → bytes_eq k k ≡ true
bytes_eq-refl k = nat_list_eq_equiv.refl k

pub bytes_eq-swap : (k q : List ℕ) → bytes_eq k q ≡ bytes_eq q k
bytes_eq-swap k q = nat_list_eq_equiv.symm k q

pub same_bytes : (k q : List ℕ) → bytes_eq k q ≡ true → k ≡ q
same_bytes k q e = (bytes_eq-Decides k q).0 e

pub get-insert : (m : Map) (k : List ℕ) (v : Value) (q : List ℕ) → get (insert m k v) q ≡ cond (bytes_eq k q) (Some v) (get m q)
get-insert m k v q = map.get-insert nat_list_cmp_total m k v q
    ∙ ap (λ b. cond b (Some v) (get m q)) (is_eq-slice_cmp q k ∙ bytes_eq-swap q k)

pub get-remove : (m : Map) (k q : List ℕ) → get (remove m k) q ≡ cond (bytes_eq k q) None (get m q)
get-remove m k q = map.get-remove nat_list_cmp_total m k q ∙ ap (λ b. cond b None (get m q)) (is_eq-slice_cmp q k ∙ bytes_eq-swap q k)

pub get-set : (m : Map) (k : List ℕ) (o : Option Value) (q : List ℕ) → get (set m k o) q ≡ cond (bytes_eq k q) o (get m q)
get-set m k None q = get-remove m k q
get-set m k (Some v) q = get-insert m k v q

-- a test of keys by their bytes keeps what it passes
pub get-retain_keys : (m : Map) (p : List ℕ → Bool) (q : List ℕ) → get (retain_keys m p) q ≡ cond (p q) (get m q) None
get-retain_keys m p q = map.get-retain_keys m p q (λ x e. ap p (sym (slice_cmp-IsAntisymmetric nat_cmp-IsAntisymmetric q x e)))

-- what stands at one key stands there by each test that finds the key
pub get_here : (m : Map) (k q : List ℕ) → cond (bytes_eq k q) (get m k) (get m q) ≡ get m q
get_here m k q =
    elim (bytes_eq k q) as (λ b. bytes_eq k q ≡ b → cond b (get m k) (get m q) ≡ get m q) [
      | true ↦ λ e. ap (get m) (same_bytes k q e)
      | false ↦ λ _. refl
    ] refl
