-- How many keys the shards of a span have together.
use Rattle.std.proofs.Common.{◌≡◌, ℕ, zero, suc, ◌+◌, ◌<◌, add-one, List, [], ◌∷◌, map, length, take, get_or, Bool, true, false, cond}
use Rattle.std.proofs.Common.{Option, Some, None, is_some, min, ℤ, pos, ◌+ℤ◌, w64, to_z, of_z, refl, sym, ap, ◌∙◌, subst, arith}
use Rattle.std.proofs.lemmas.Cmp.{nat_list_cmp_total}
use Rattle.std.proofs.Math.Facts.{to_z_pos}
use Rattle.std.specs.Cmp.Lexicographic.{slice_cmp}
use Rattle.std.specs.FinMap.{get, empty, remove, len, entries, find, get-entries, len-entries, get-empty, len-empty, len-insert}
use Rattle.std.specs.FinMap.{empty_of_len}
use Rattle.std.specs.Int.{saturate_signed}
use Rattle.std.specs.Option.{option_or, IsSome}
use Rattle.std.specs.Ordering.{nat_cmp}
use Rattle.std.specs.Str.{bytes_eq}
use Rattle.std.proofs.lemmas.Map.Text.{is_eq-slice_cmp}
use Rattle.groups.specs.GroupSet.{IsAscending}
use Rattle.keyspace.proofs.Changes.{set-set, set-as_it_was, get-remove_here}
use Rattle.keyspace.proofs.Gets.{same, same_bytes, bytes_eq-refl, get-remove}
use Rattle.keyspace.specs.Map.{Map}
use Rattle.placement.specs.Layout.{Layout}
use Rattle.shards.proofs.Joins.{get-joined-cons}
use Rattle.shards.specs.Joined.{Span, numbers, union, SpanHasOwnKeys}
use Rattle.shards.proofs.Unions.{none_of, not_first}
use Rattle.values.specs.declared.Value.{Value}

-- a map with a key in it has one key more than without
len-there : (m : Map) (k : List ℕ) (v : Value) → get m k ≡ Some v → len m ≡ 1 + len (remove m k)
len-there m k v there =
    ap len (sym (set-as_it_was m k (Some v) there) ∙ sym (set-set m k None (Some v)))
    ∙ len-insert nat_list_cmp_total (remove m k) k v
    ∙ ap (λ o. cond (is_some o) (len (remove m k)) (len (remove m k) + 1)) (get-remove_here m k)
    ∙ (let one : len (remove m k) + 1 ≡ 1 + len (remove m k) = omega arith in one)

-- the first entry is found at its key
get-first : (m : Map) (k : List ℕ) (v : Value) (es : List (List ℕ × Value)) → entries m ≡ (k, v) ∷ es → get m k ≡ Some v
get-first m k v es is =
    get-entries m k ∙ ap (find (slice_cmp nat_cmp) k) is
    ∙ ap (λ b. cond b (Some v) (find (slice_cmp nat_cmp) k es)) (is_eq-slice_cmp k k ∙ bytes_eq-refl k)

-- a map with all keys of two others that have none in common
abbrev IsBoth : Map → Map → Map → Type 0
IsBoth u m d = (q : List ℕ) → get u q ≡ option_or (get m q) (get d q)

abbrev HaveNone : Map → Map → Type 0
HaveNone m d = (q : List ℕ) → IsSome (get m q) → get d q ≡ None

without_key : (b : Bool) (o p : Option Value) → (b ≡ true → p ≡ None) → cond b None (option_or o p) ≡ option_or (cond b None o) p
without_key true o p none = sym (none refl)
without_key false o p none = refl

none_left : (b : Bool) (o p : Option Value) → (IsSome o → p ≡ None) → IsSome (cond b None o) → p ≡ None
none_left true o p none there = (let h = there in cc)
none_left false o p none there = none there

-- without the key k of the first, both have one key less
one_fewer : (n : ℕ) (u m d : Map) (k : List ℕ) (v : Value) → get m k ≡ Some v → len m ≡ suc n → IsBoth u m d → HaveNone m d
    → ((w x : Map) → len x ≡ n → IsBoth w x d → HaveNone x d → len w ≡ n + len d) → len u ≡ suc n + len d
one_fewer n u m d k v there few both apart rest =
    let mine = len-there m k v there in
    let all = len-there u k v (both k ∙ ap (λ o. option_or o (get d k)) there) in
    let others = rest (remove u k) (remove m k) (omega (arith, mine, few)) both' apart' in
    omega (arith, all, others)
  where
    both' : IsBoth (remove u k) (remove m k) d
    both' q =
        get-remove u k q ∙ ap (cond (bytes_eq k q) None) (both q)
        ∙ without_key (bytes_eq k q) (get m q) (get d q) (λ e. ap (get d) (sym (same_bytes k q e)) ∙ apart k (ap is_some there))
        ∙ ap (λ o. option_or o (get d q)) (sym (get-remove m k q))

    apart' : HaveNone (remove m k) d
    apart' q in_rest = none_left (bytes_eq k q) (get m q) (get d q) (apart q) (subst IsSome (get-remove m k q) in_rest)

len-both : (n : ℕ) (u m d : Map) → len m ≡ n → IsBoth u m d → HaveNone m d → len u ≡ n + len d
len-both zero u m d few both apart =
    let none : m ≡ empty = empty_of_len m few in
    ap len (same u d (λ q. both q ∙ ap (λ x. option_or (get x q) (get d q)) none
    ∙ ap (λ o. option_or o (get d q)) (get-empty (slice_cmp nat_cmp) q)))
    ∙ (let e : len d ≡ 0 + len d = omega arith in e)
len-both (suc n) u m d few both apart =
    elim (entries m) as (λ es. entries m ≡ es → len u ≡ suc n + len d) [
      | [] ↦ λ e. let nothing : len m ≡ 0 = len-entries m ∙ ap (λ (es : List (List ℕ × Value)). length es) e in
          absurd (omega (arith, nothing, few))
      | e ∷ es ↦ λ is. one_fewer n u m d e.0 e.1 (get-first m e.0 e.1 es is) few both apart (λ w x. len-both n w x d)
    ] refl

-- the keys of all shards, counted shard by shard
abbrev pub total : Span → ℕ
total [] = 0
total (s ∷ ss) = len s.1 + total ss

pub len-union : (table : Layout) (ss : Span) → SpanHasOwnKeys table ss → IsAscending (numbers ss) → len (union ss) ≡ total ss
len-union table [] own up = len-empty (slice_cmp nat_cmp) Value
len-union table (s ∷ ss) own up =
    let rest = len-union table ss own.1 up.1 in
    len-both (len s.1) (union (s ∷ ss)) s.1 (union ss) refl (λ q. get-joined-cons s.1 (map (λ s. s.1) ss) q)
    (λ q there. none_of table ss q own.1 (λ i below e. not_first s.0 ss i up below (e ∙ own.0 q there)))
    ∙ ap (λ n. len s.1 + n) rest

pub total-take : (ss : Span) (i : ℕ) (s : ℕ × Map) → i < length ss → s ≡ get_or ss i s
    → total (take (i + 1) ss) ≡ total (take i ss) + len s.1
total-take ss i s below at = ap (λ k. total (take k ss)) (add-one i) ∙ step ss i s below at
  where
    step : (ss : Span) (i : ℕ) (s : ℕ × Map) → i < length ss → s ≡ get_or ss i s → total (take (suc i) ss) ≡ total (take i ss) + len s.1
    step [] i s below at = absurd (omega (arith, below))
    step (x ∷ ss) zero s below at = let e : len s.1 ≡ len x.1 = ap (λ (p : ℕ × Map). len p.1) at in omega (arith, e)
    step (x ∷ ss) (suc i) s below at = let rest = step ss i s (omega (arith, below)) at in omega (arith, rest)

-- such a number is kept as it is
kept : (r : ℤ) (n : ℕ) → r ≡ pos (min n 9223372036854775807) → to_z w64 (of_z w64 r) ≡ pos (min n 9223372036854775807)
kept r n is =
    let small : min n 9223372036854775807 < 9223372036854775808 = omega arith in
    ap (λ z. to_z w64 (of_z w64 z)) is ∙ to_z_pos w64 small

-- one shard's number of keys more, where the greatest number stands for all above too
pub most_added : (z w r : ℤ) (a b : ℕ) → z ≡ pos (min a 9223372036854775807) → w ≡ pos (min b 9223372036854775807)
    → r ≡ saturate_signed w64 (z +ℤ to_z w64 (of_z w64 w)) → to_z w64 (of_z w64 r) ≡ pos (min (a + b) 9223372036854775807)
most_added z w r a b is more sum =
    let most : min (min a 9223372036854775807 + min b 9223372036854775807) 9223372036854775807 ≡ min (a + b) 9223372036854775807 =
    omega arith in
    kept r (a + b)
    (sum ∙ ap (λ x. saturate_signed w64 (x +ℤ to_z w64 (of_z w64 w))) is
    ∙ ap (λ x. saturate_signed w64 (pos (min a 9223372036854775807) +ℤ x)) (kept w b more) ∙ ap pos most)
