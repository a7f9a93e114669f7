-- What a table of entries says as a map, after each change of the table that `indexmap` names.
use Rattle.std.proofs.Common.{◌≡◌, ℕ, ◌+◌, List, [], ◌∷◌, length, true, false, cond, Option}
use Rattle.std.proofs.Common.{Some, None, is_some, arith, refl}
use Rattle.std.proofs.Common.{sym, ap, subst, ◌∙◌}
use Rattle.std.proofs.lemmas.Cmp.{nat_list_cmp_total, nat_list_eq_equiv}
use Rattle.std.proofs.lemmas.Map.Text.{is_eq-slice_cmp}
use Rattle.std.specs.Cmp.Lexicographic.{slice_cmp}
use Rattle.std.specs.FinMap.{get, insert, remove, len, find, get-from_entries, len-insert, len-empty}
use Rattle.std.specs.List.{IsDistinct, AllByRecursion}
use Rattle.std.specs.Map.{lookup, keys_of, KeepsOthers}
use Rattle.std.specs.Ordering.{nat_cmp}
use Rattle.std.specs.Str.{bytes_eq}
use Rattle.std.proofs.lemmas.Map.Keys.{IsDistinct-head, IsDistinct-tail}
use Rattle.keyspace.proofs.Gets.{same, same_bytes, get-insert, get-remove, bytes_eq-swap}
use Rattle.keyspace.specs.Plain.{map_of}
use Rattle.values.specs.declared.Value.{Value}

found : (es : List (List ℕ × Value)) (q : List ℕ) → find (slice_cmp nat_cmp) q es ≡ lookup (bytes_eq q) es
found [] q = refl
found (e ∷ es) q =
    ap (λ b. cond b (Some e.1) (find (slice_cmp nat_cmp) q es)) (is_eq-slice_cmp q e.0)
    ∙ ap (cond (bytes_eq q e.0) (Some e.1)) (found es q)

pub get-map_of : (es : List (List ℕ × Value)) (q : List ℕ) → get (map_of es) q ≡ lookup (bytes_eq q) es
get-map_of es q = get-from_entries nat_list_cmp_total es q ∙ found es q

other_key : (k q x : List ℕ) → bytes_eq k q ≡ false → bytes_eq k x ≡ true → bytes_eq q x ≡ false
other_key k q x apart here = subst (λ y. bytes_eq q y ≡ false) (same_bytes k x here) (bytes_eq-swap q k ∙ apart)

-- a table that has `w` at the bytes `k`, and at each other key what it had, has so by every look-up
changed : (k : List ℕ) (es fs : List (List ℕ × Value)) (w : Option Value) → lookup (bytes_eq k) fs ≡ w
    → KeepsOthers bytes_eq (bytes_eq k) es fs
    → (q : List ℕ) → lookup (bytes_eq q) fs ≡ cond (bytes_eq k q) w (lookup (bytes_eq q) es)
unfolding KeepsOthers
changed k es fs w here others q =
    elim (bytes_eq k q) as (λ b. bytes_eq k q ≡ b → lookup (bytes_eq q) fs ≡ cond b w (lookup (bytes_eq q) es)) [
      | true ↦ λ e. ap (λ r. lookup (bytes_eq r) fs) (sym (same_bytes k q e)) ∙ here
      | false ↦ λ e. others (bytes_eq q) (λ x y h. nat_list_eq_equiv.congr q x y h) (λ x h. other_key k q x e h)
    ] refl

pub map_of-inserted : (k : List ℕ) (es fs : List (List ℕ × Value)) (v : Value) → lookup (bytes_eq k) fs ≡ Some v
    → KeepsOthers bytes_eq (bytes_eq k) es fs
    → map_of fs ≡ insert (map_of es) k v
map_of-inserted k es fs v here others =
    same (map_of fs) (insert (map_of es) k v) (λ q.
    get-map_of fs q ∙ changed k es fs (Some v) here others q ∙ ap (cond (bytes_eq k q) (Some v)) (sym (get-map_of es q))
    ∙ sym (get-insert (map_of es) k v q))

pub map_of-removed : (k : List ℕ) (es fs : List (List ℕ × Value)) → lookup (bytes_eq k) fs ≡ None → KeepsOthers bytes_eq (bytes_eq k) es fs
    → map_of fs ≡ remove (map_of es) k
map_of-removed k es fs here others =
    same (map_of fs) (remove (map_of es) k) (λ q.
    get-map_of fs q ∙ changed k es fs None here others q ∙ ap (cond (bytes_eq k q) None) (sym (get-map_of es q))
    ∙ sym (get-remove (map_of es) k q))

absent : (k : List ℕ) (es : List (List ℕ × Value)) → AllByRecursion (λ y. bytes_eq k y ≡ false) (keys_of es)
    → lookup (bytes_eq k) es ≡ None
absent k [] h = refl
absent k (e ∷ es) h = ap (λ b. cond b (Some e.1) (lookup (bytes_eq k) es)) h.0 ∙ absent k es h.1

-- keys that differ are counted each
pub len-map_of : (es : List (List ℕ × Value)) → IsDistinct bytes_eq (keys_of es) → len (map_of es) ≡ length es
len-map_of [] h = len-empty (slice_cmp nat_cmp) Value
len-map_of (e ∷ es) h =
    let new : get (map_of es) e.0 ≡ None =
    get-map_of es e.0 ∙ absent e.0 es (IsDistinct-head bytes_eq e.0 (keys_of es) h) in
    let rest = len-map_of es (IsDistinct-tail bytes_eq e.0 (keys_of es) h) in
    let one_more : len (insert (map_of es) e.0 e.1) ≡ len (map_of es) + 1 =
    len-insert nat_list_cmp_total (map_of es) e.0 e.1 ∙ ap (λ o. cond (is_some o) (len (map_of es)) (len (map_of es) + 1)) new in
    omega (arith, one_more, rest)
