-- The union of some shards, and which shards a task leaves.
use Rattle.std.proofs.Common.{◌≡◌, ℕ, ◌||◌, List, [], ◌∷◌, map, Bool, true, false, cond, Option, Some, None}
use Rattle.std.proofs.Common.{inl, inr}
use Rattle.std.proofs.Common.{refl, sym, ap, ◌∙◌, eq-eqb, ne_eqb}
use Rattle.std.proofs.lemmas.Bool.{cases_eq}
use Rattle.std.specs.Cmp.Lexicographic.{slice_cmp}
use Rattle.std.specs.FinMap.{get, get-empty}
use Rattle.std.specs.Option.{option_or}
use Rattle.std.specs.Ordering.{nat_cmp}
use Rattle.groups.specs.GroupSet.{has}
use Rattle.keyspace.specs.Map.{Map}
use Rattle.placement.specs.Layout.{Layout, shard_of}
use Rattle.resp.specs.Content.{Content}
use Rattle.tasks.specs.Tasks.{Task, deed_effect, deed_of}
use Rattle.shards.proofs.Joins.{get-joined-cons, get-joined, none_elsewhere, or_same}
use Rattle.shards.specs.Joined.{joined, map_of_shard, HasOwnKeys, Span, numbers, union, span_at, divided, SpanRan}
use Rattle.values.specs.declared.Value.{Value}

-- ---- the union of some shards

pub numbers-span_at : (maps : List Map) (gs : List ℕ) → numbers (span_at maps gs) ≡ gs
numbers-span_at maps [] = refl
numbers-span_at maps (g ∷ gs) = ap (λ l. g ∷ l) (numbers-span_at maps gs)

or_cond_same : (b : Bool) (o : Option Value) → option_or o (cond b o None) ≡ o
or_cond_same true o = or_same o
or_cond_same false None = refl
or_cond_same false (Some v) = refl

-- at a key the union of some shards has what the key's shard has, if it is one of these
pub get-union : (table : Layout) (maps : List Map) (gs : List ℕ) (q : List ℕ) → HasOwnKeys table maps
    → get (union (span_at maps gs)) q ≡ cond (has gs (shard_of table q)) (get (map_of_shard maps (shard_of table q)) q) None
get-union table maps [] q own = get-empty (slice_cmp nat_cmp) q
get-union table maps (g ∷ gs) q own =
    get-joined-cons (map_of_shard maps g) (map (λ s. s.1) (span_at maps gs)) q
    ∙ ap (option_or (get (map_of_shard maps g) q)) (get-union table maps gs q own)
    ∙ elim (cases_eq g (shard_of table q)) [
      | inl e ↦ ap (λ n. option_or (get (map_of_shard maps n) q) (cond (has gs (shard_of table q)) here None)) e
          ∙ or_cond_same (has gs (shard_of table q)) here
          ∙ ap (λ b. cond (b || has gs (shard_of table q)) here None) (sym (eq-eqb g (shard_of table q) e))
      | inr apart ↦ ap (λ o. option_or o (cond (has gs (shard_of table q)) here None))
          (none_elsewhere table g (map_of_shard maps g) q (own g) (λ e. apart (sym e)))
          ∙ ap (λ b. cond (b || has gs (shard_of table q)) here None) (sym (ne_eqb g (shard_of table q) apart))
    ]
  where
    here : Option Value
    here = get (map_of_shard maps (shard_of table q)) q

-- so it is the joined map, cut down to the keys that lie there
pub get-union-joined : (table : Layout) (maps : List Map) (gs : List ℕ) (q : List ℕ) → HasOwnKeys table maps
    → get (union (span_at maps gs)) q ≡ cond (has gs (shard_of table q)) (get (joined maps) q) None
get-union-joined table maps gs q own =
    get-union table maps gs q own ∙ ap (λ o. cond (has gs (shard_of table q)) o None) (sym (get-joined table maps q own))

-- ---- which shards they are

-- a task leaves the same shards
numbers-divided : (table : Layout) (m : Map) (gs : List ℕ) → numbers (divided table gs m) ≡ gs
numbers-divided table m [] = refl
numbers-divided table m (g ∷ gs) = ap (λ l. g ∷ l) (numbers-divided table m gs)

pub numbers-SpanRan : (table : Layout) (task : Task) (before after : Span) (outcome : Option Content)
    → SpanRan table task before outcome after → numbers after ≡ numbers before
numbers-SpanRan table task before after None ran = ap numbers ran
numbers-SpanRan table task before after (Some reply) ran =
    ap (λ r. numbers r.0) ran ∙ numbers-divided table (deed_effect (deed_of task reply) (union before)).0 (numbers before)
