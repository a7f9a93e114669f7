-- What a joined map has at a key: what its shard has there.
use Rattle.std.proofs.Common.{◌≡◌, ℕ, zero, suc, List, [], ◌∷◌, Bool, true, false, cond, Option, Some, None, is_some, refl, sym, ap, ◌∙◌}
use Rattle.std.proofs.lemmas.Cmp.{nat_list_cmp_total}
use Rattle.std.specs.Cmp.Lexicographic.{slice_cmp}
use Rattle.std.specs.FinMap as finite
use Rattle.std.specs.FinMap.{get, entries, find, get-entries, get-empty}
use Rattle.std.specs.Option.{option_or}
use Rattle.std.specs.Ordering.{nat_cmp, eq_by_cmp}
use Rattle.keyspace.specs.Map.{Map, with_entries}
use Rattle.placement.specs.Layout.{Layout, shard_of}
use Rattle.shards.specs.Joined.{joined, map_of_shard, HasKeysOf, HasOwnKeys}
use Rattle.values.specs.declared.Value.{Value}

or_cond : (b : Bool) (v : Value) (o d : Option Value) → cond b (Some v) (option_or o d) ≡ option_or (cond b (Some v) o) d
or_cond true v o d = refl
or_cond false v o d = refl

pub get-with_entries : (m : Map) (es : List (List ℕ × Value)) (q : List ℕ)
    → get (with_entries m es) q ≡ option_or (find (slice_cmp nat_cmp) q es) (get m q)
get-with_entries m [] q = refl
get-with_entries m (e ∷ es) q =
    finite.get-insert nat_list_cmp_total (with_entries m es) e.0 e.1 q
    ∙ ap (cond (eq_by_cmp (slice_cmp nat_cmp) q e.0) (Some e.1)) (get-with_entries m es q)
    ∙ or_cond (eq_by_cmp (slice_cmp nat_cmp) q e.0) e.1 (find (slice_cmp nat_cmp) q es) (get m q)

-- what the first map has, else what the others have
pub get-joined-cons : (m : Map) (ms : List Map) (q : List ℕ) → get (joined (m ∷ ms)) q ≡ option_or (get m q) (get (joined ms) q)
get-joined-cons m ms q = get-with_entries (joined ms) (entries m) q ∙ ap (λ o. option_or o (get (joined ms) q)) (sym (get-entries m q))

pub or_none : (o : Option Value) → option_or o None ≡ o
or_none None = refl
or_none (Some v) = refl

pub or_same : (o : Option Value) → option_or o o ≡ o
or_same None = refl
or_same (Some v) = refl

get-joined-none : (ms : List Map) (q : List ℕ) → ((i : ℕ) → get (map_of_shard ms i) q ≡ None) → get (joined ms) q ≡ None
get-joined-none [] q none = get-empty (slice_cmp nat_cmp) q
get-joined-none (m ∷ ms) q none =
    get-joined-cons m ms q ∙ ap (λ o. option_or o (get (joined ms) q)) (none 0) ∙ get-joined-none ms q (λ i. none (suc i))

-- where all maps but one have nothing at a key, the joined map has there what that one has
get-joined-at : (ms : List Map) (p : ℕ) (q : List ℕ) → ((i : ℕ) → (i ≡ p → ⊥) → get (map_of_shard ms i) q ≡ None)
    → get (joined ms) q ≡ get (map_of_shard ms p) q
get-joined-at [] p q none = refl
get-joined-at (m ∷ ms) zero q none =
    get-joined-cons m ms q ∙ ap (option_or (get m q)) (get-joined-none ms q (λ i. none (suc i) (λ e. suc_not_zero i e))) ∙ or_none (get m q)
  where
    suc_not_zero : (i : ℕ) → suc i ≡ 0 → ⊥
    suc_not_zero i e = cc
get-joined-at (m ∷ ms) (suc p) q none =
    get-joined-cons m ms q ∙ ap (λ o. option_or o (get (joined ms) q)) (none 0 (λ e. cc))
    ∙ get-joined-at ms p q (λ i apart. none (suc i) (λ e. apart (cc)))

-- a shard has nothing at a key that lies elsewhere
pub none_elsewhere : (table : Layout) (shard : ℕ) (m : Map) (q : List ℕ) → HasKeysOf table shard m → (shard_of table q ≡ shard → ⊥)
    → get m q ≡ None
none_elsewhere table shard m q own apart =
    elim (get m q) as (λ o. get m q ≡ o → o ≡ None) [
      | None ↦ λ _. refl
      | Some v ↦ λ e. absurd (apart (own q (ap is_some e)))
    ] refl

-- the joined map has at a key what the key's shard has there
pub get-joined : (table : Layout) (maps : List Map) (q : List ℕ) → HasOwnKeys table maps
    → get (joined maps) q ≡ get (map_of_shard maps (shard_of table q)) q
get-joined table maps q own =
    get-joined-at maps (shard_of table q) q (λ i apart. none_elsewhere table i (map_of_shard maps i) q (own i) (λ e. apart (sym e)))
