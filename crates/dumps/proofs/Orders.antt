-- Entries that are lent, put in order, are the map that they say; and entries that are added one after another.
use Rattle.std.proofs.Common.{◌≡◌, ℕ, zero, suc, ◌≤◌, List, [], ◌∷◌, take, length, Bool}
use Rattle.std.proofs.Common.{true, false, cond, T, Some, None}
use Rattle.std.proofs.Common.{Bor, arith, refl, sym, ap, subst, ◌∙◌, ◌&&◌}
use Rattle.std.proofs.lemmas.Cmp.{nat_list_cmp_total}
use Rattle.std.proofs.lemmas.Map.Keys.{IsDistinct-head, IsDistinct-tail}
use Rattle.std.specs.BTreeMap.{insert_entry}
use Rattle.std.specs.Cmp.Lexicographic.{slice_cmp}
use Rattle.std.specs.FinMap as finite
use Rattle.std.specs.FinMap.{get, insert, entries, from_entries, from_sorted, find, is_sorted, put}
use Rattle.std.specs.FinMap.{get-from_entries, get-from_sorted, entries-from_sorted}
use Rattle.std.specs.FinMap.{entries-insert, get-entries, same_entries_map}
use Rattle.std.specs.List.{IsDistinct, AllByRecursion, slice_get}
use Rattle.std.specs.List.Sorted.{IsStrictlySortedBy}
use Rattle.std.specs.Map.{keys_of}
use Rattle.std.specs.FinMap.Entries.{below_all, by_order}
use Rattle.std.specs.Ordering.{nat_cmp, is_lt, match_ordering}
use Rattle.std.specs.declared.cmp.Ordering.{Ordering}
use Rattle.std.specs.declared.cmp.Ordering.TheVariants.{Less, Equal, Greater}
use Rattle.std.specs.Str.{bytes_eq}
use Rattle.dumps.specs.Dump.{Lent, lent, map_of_lent}
use Rattle.keyspace.proofs.Gets.{same, same_bytes, bytes_eq-swap, get-insert}
use Rattle.keyspace.proofs.Parts.{or_else, or_else-none, get-with_entries}
use Rattle.keyspace.specs.Map.{Map, with_entries}
use Rattle.texts.specs.Texts.{Bytes}
use Rattle.values.specs.declared.Value.{Value}

-- the order of keys
abbrev order : Bytes → Bytes → Ordering
order = slice_cmp nat_cmp

-- ---- with_entries, look-up by look-up

-- entries may be put in order before they are added
pub with_entries-entries : (m : Map) (es : List (Bytes × Value)) →
    with_entries m es ≡ with_entries m (entries {R = order} (from_entries es))
with_entries-entries m es =
    same (with_entries m es) (with_entries m (entries {R = order} (from_entries es))) (λ q.
    get-with_entries m es q
    ∙ ap (λ o. or_else o (get m q)) (sym (get-from_entries nat_list_cmp_total es q) ∙ get-entries {R = order} (from_entries es) q)
    ∙ sym (get-with_entries m (entries {R = order} (from_entries es)) q))

-- what holds an entry for each key of a map, and nothing else, is that map
pub with_entries-empty : (m : Map) → with_entries finite.empty (entries {R = order} m) ≡ m
with_entries-empty m =
    same (with_entries finite.empty (entries {R = order} m)) m (λ q.
    get-with_entries finite.empty (entries {R = order} m) q
    ∙ ap (or_else (find order q (entries {R = order} m))) (finite.get-empty order q)
    ∙ or_else-none (find order q (entries {R = order} m)) ∙ sym (get-entries {R = order} m q))

-- ---- entries added one after another

apart : {A : Type 0} (a b : Bool) (x y z : A) → (a ≡ true → b ≡ false) → cond a x (cond b y z) ≡ cond b y (cond a x z)
apart true b x y z h = ap (λ t. cond t y x) (sym (h refl)) ∙ refl
apart false b x y z h = refl

insert-apart : (m : Map) (k l : Bytes) (v w : Value) → bytes_eq k l ≡ false → insert (insert m l w) k v ≡ insert (insert m k v) l w
insert-apart m k l v w differ =
    same (insert (insert m l w) k v) (insert (insert m k v) l w) (λ q.
    get-insert (insert m l w) k v q ∙ ap (cond (bytes_eq k q) (Some v)) (get-insert m l w q)
    ∙ apart (bytes_eq k q) (bytes_eq l q) (Some v) (Some w) (get m q)
    (λ e. ap (bytes_eq l) (sym (same_bytes k q e)) ∙ bytes_eq-swap l k ∙ differ)
    ∙ ap (cond (bytes_eq l q) (Some w)) (sym (get-insert m k v q)) ∙ sym (get-insert (insert m k v) l w q))

differs : (k : Bytes) (es : List (Bytes × Value)) (n : ℕ) (e : Bytes × Value) → AllByRecursion (λ y. bytes_eq k y ≡ false) (keys_of es)
    → slice_get es n ≡ Some e → bytes_eq k e.0 ≡ false
differs k [] n e h is = cc
differs k (x ∷ es) zero e h is = let one : x ≡ e = cc in subst (λ y. bytes_eq k y.0 ≡ false) one h.0
differs k (x ∷ es) (suc n) e h is = differs k es n e h.1 is

pub with_entries-next : (m : Map) (es : List (Bytes × Value)) (n : ℕ) (e : Bytes × Value) → IsDistinct bytes_eq (keys_of es)
    → slice_get es n ≡ Some e → with_entries m (take (suc n) es) ≡ insert (with_entries m (take n es)) e.0 e.1
with_entries-next m [] n e h is = cc
with_entries-next m (x ∷ es) zero e h is = let one : x ≡ e = cc in ap (λ y. insert m y.0 y.1) one
with_entries-next m (x ∷ es) (suc n) e h is =
    ap (λ w. insert w x.0 x.1) (with_entries-next m es n e (IsDistinct-tail bytes_eq x.0 (keys_of es) h) is)
    ∙ insert-apart (with_entries m (take n es)) x.0 e.0 x.1 e.1
    (differs x.0 es n e (IsDistinct-head bytes_eq x.0 (keys_of es) h) is)

-- ---- the tree

abbrev pub by_bytes : Bor Bytes → Bor Bytes → Ordering
by_bytes x y = order x.now y.now

lesser : (o : Ordering) → o ≡ Less → T (is_lt o)
lesser o e = subst (λ r. T (is_lt r)) (sym e) tt

both : (a b : Bool) → T a → T b → T (a && b)
both true b p q = q
both false b p q = p

below : (k : Bor Bytes) (es : Lent) → AllByRecursion (λ y. by_bytes k y ≡ Less) (keys_of es) → T (below_all order k.now (lent es))
below k [] h = tt
below k (e ∷ es) h = both _ _ (lesser (by_bytes k e.0) h.0) (below k es h.1)

in_order : (es : Lent) → IsStrictlySortedBy by_bytes (keys_of es) → T (is_sorted order (lent es))
unfolding IsStrictlySortedBy
in_order [] h = tt
in_order (e ∷ es) h = both _ _ (below e.0 es h.0) (in_order es h.1)

-- what is in order stays as it is
pub entries-lent : (es : Lent) → IsStrictlySortedBy by_bytes (keys_of es) → entries (map_of_lent es) ≡ lent es
entries-lent es h =
    ap entries (same (map_of_lent es) (from_sorted (lent es)) (λ q.
    get-from_entries nat_list_cmp_total (lent es) q ∙ sym (get-from_sorted order (lent es) q (in_order es h))))
    ∙ entries-from_sorted order (lent es) (in_order es h)

lent-put : (es : Lent) (k : Bor Bytes) (v : Bor Value) → lent (insert_entry by_bytes es k v) ≡ put order k.now v.now (lent es)
lent-put [] k v = refl
lent-put (e ∷ es) k v =
    elim (by_bytes k e.0) as (λ o. lent (match_ordering o ((k, v) ∷ e ∷ es) ((e.0, v) ∷ es) (e ∷ insert_entry by_bytes es k v))
    ≡ by_order o ((k.now, v.now) ∷ lent (e ∷ es)) ((e.0.now, v.now) ∷ lent es) ((e.0.now, e.1.now) ∷ put order k.now v.now (lent es))) [
      | Less ↦ refl
      | Equal ↦ refl
      | Greater ↦ ap (λ l. (e.0.now, e.1.now) ∷ l) (lent-put es k v)
    ]

-- an entry that is put to its place in the order is inserted into the map
pub map_of_lent-insert : (es fs : Lent) (k : Bor Bytes) (v : Bor Value) → IsStrictlySortedBy by_bytes (keys_of es)
    → IsStrictlySortedBy by_bytes (keys_of fs) → fs ≡ insert_entry by_bytes es k v → map_of_lent fs ≡ insert (map_of_lent es) k.now v.now
map_of_lent-insert es fs k v h i e =
    same_entries_map (map_of_lent fs) (insert (map_of_lent es) k.now v.now)
    (entries-lent fs i ∙ ap lent e ∙ lent-put es k v ∙ ap (put order k.now v.now) (sym (entries-lent es h))
    ∙ sym (entries-insert nat_list_cmp_total (map_of_lent es) k.now v.now))

-- where there is no entry all are before
pub past-none : {A : Type 0} (es : List A) (n : ℕ) → slice_get es n ≡ None → length es ≤ n
past-none [] n h = omega arith
past-none (x ∷ es) zero h = cc
past-none (x ∷ es) (suc n) h = let before = past-none es n h in omega (arith, before)
