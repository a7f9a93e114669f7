-- One deed over its task's shards, the others left: the shards have only their own keys again, and the joined map is
-- the deed's.
use Rattle.std.proofs.Common.{◌≡◌, ℕ, ◌==◌, List, [], ◌∷◌, map, drop, true, false, cond, Some, None, slice_index_or, inl, inr, refl, sym}
use Rattle.std.proofs.Common.{ap, ◌∙◌, subst, eqb-true, eq-eqb}
use Rattle.std.proofs.lemmas.Bool.{or_cases}
use Rattle.std.specs.FinMap.{get, empty}
use Rattle.std.specs.Option.{IsSome}
use Rattle.tasks.proofs.Turns.{pair}
use Rattle.groups.specs.GroupSet.{has}
use Rattle.keyspace.proofs.Gets.{same, get-retain_keys}
use Rattle.keyspace.specs.Map.{Map}
use Rattle.placement.specs.Layout.{Layout, IsTable, shard_of}
use Rattle.resp.specs.Content.{Content}
use Rattle.tasks.specs.Tasks.{Task, Deed, task_groups, deed_effect, deed_of}
use Rattle.tasks.proofs.Within.{same_elsewhere, same_reply, same_there}
use Rattle.shards.proofs.Joins.{get-joined}
use Rattle.shards.proofs.Spans.{numbers-span_at, get-union-joined}
use Rattle.shards.specs.Joined.{joined, map_of_shard, HasKeysOf, HasOwnKeys, Span, union, span_at, part_of, divided, SpanRan}

-- shards that are the same as a span are the same each
pub at_member : (f h : ℕ → Map) (gs : List ℕ) (g : ℕ) → ◌≡◌ {A = Span} (map (λ n. (n, f n)) gs) (map (λ n. (n, h n)) gs) → has gs g ≡ true
    → f g ≡ h g
at_member f h [] g e there = absurd (cc)
at_member f h (x ∷ gs) g e there = elim (or_cases (x == g) (has gs g) there) [
  | inl here ↦ subst (λ n. f n ≡ h n) (eqb-true x g here) (ap (λ (l : Span). (slice_index_or l 0 (0, empty)).1) e)
  | inr later ↦ at_member f h gs g (ap (λ (l : Span). drop 1 l) e) later
]

pub get-part_of : (table : Layout) (m : Map) (shard : ℕ) (q : List ℕ)
    → get (part_of table m shard) q ≡ cond (shard_of table q == shard) (get m q) None
get-part_of table m shard q = get-retain_keys m (λ key. shard_of table key == shard) q

pub HasKeysOf-part_of : (table : Layout) (m : Map) (shard : ℕ) → HasKeysOf table shard (part_of table m shard)
HasKeysOf-part_of table m shard q there =
    elim (shard_of table q == shard) as (λ b. (shard_of table q == shard) ≡ b → IsSome (cond b (get m q) None) → shard_of table q ≡ shard) [
      | true ↦ λ e _. eqb-true (shard_of table q) shard e
      | false ↦ λ _ none. absurd (cc)
    ] refl (subst IsSome (get-part_of table m shard q) there)

module _ (table : Layout) (old new : List Map) (deed : Deed) (is_table : IsTable table) (own : HasOwnKeys table old) where
  abbrev groups : List ℕ
  groups = task_groups table deed.0

  abbrev part : Map
  part = union (span_at old groups)

  -- the parts are handed out to the task's shards, and the others have what they had
  module _ (parts : span_at new groups ≡ divided table groups (deed_effect deed part).0)
      (others : (shard : ℕ) → has groups shard ≡ false → map_of_shard new shard ≡ map_of_shard old shard) where
    given : (shard : ℕ) → has groups shard ≡ true → map_of_shard new shard ≡ part_of table (deed_effect deed part).0 shard
    given shard there = at_member (map_of_shard new) (part_of table (deed_effect deed part).0) groups shard parts there

    pub own_after : HasOwnKeys table new
    own_after shard = elim (has groups shard) as (λ b. has groups shard ≡ b → HasKeysOf table shard (map_of_shard new shard)) [
      | true ↦ λ there. subst (HasKeysOf table shard) (sym (given shard there)) (HasKeysOf-part_of table (deed_effect deed part).0 shard)
      | false ↦ λ away. subst (HasKeysOf table shard) (sym (others shard away)) (own shard)
    ] refl

    is_part : (q : List ℕ) → get part q ≡ cond (has groups (shard_of table q)) (get (joined old) q) None
    is_part q = get-union-joined table old groups q own

    pub joined_after : joined new ≡ (deed_effect deed (joined old)).0
    joined_after = same (joined new) (deed_effect deed (joined old)).0 (λ q. get-joined table new q own_after ∙ at_key q)
      where
        at_key : (q : List ℕ) → get (map_of_shard new (shard_of table q)) q ≡ get (deed_effect deed (joined old)).0 q
        at_key q = elim (has groups (shard_of table q))
            as (λ b. has groups (shard_of table q) ≡ b
            → get (map_of_shard new (shard_of table q)) q ≡ get (deed_effect deed (joined old)).0 q) [
              | true ↦ λ there.
                  ap (λ m. get m q) (given (shard_of table q) there)
                  ∙ get-part_of table (deed_effect deed part).0 (shard_of table q) q
                  ∙ ap (λ b. cond b (get (deed_effect deed part).0 q) None) (eq-eqb (shard_of table q) (shard_of table q) refl)
                  ∙ same_there table deed (joined old) part is_table is_part q there
              | false ↦ λ away.
                  ap (λ m. get m q) (others (shard_of table q) away)
                  ∙ sym (get-joined table old q own)
                  ∙ sym (same_elsewhere table deed (joined old) part is_table is_part q away)
            ] refl

    pub reply_same : (deed_effect deed part).1 ≡ (deed_effect deed (joined old)).1
    reply_same = same_reply table deed (joined old) part is_table is_part

-- a task that is run over the shards of its groups is run on the joined map
pub span_is_joined : (table : Layout) (old new : List Map) (task : Task) (reply : Content) → IsTable table → HasOwnKeys table old
    → SpanRan table task (span_at old (task_groups table task)) (Some reply) (span_at new (task_groups table task))
    → ((shard : ℕ) → has (task_groups table task) shard ≡ false → map_of_shard new shard ≡ map_of_shard old shard)
    → ((joined new, reply) ≡ deed_effect (deed_of task reply) (joined old)) × HasOwnKeys table new
span_is_joined table old new task reply is_table own ran others = (
  pair _ _ _ _ (joined_after table old new (deed_of task reply) is_table own parts others)
      (ap (λ r. r.1) ran ∙ reply_same table old new (deed_of task reply) is_table own parts others),
  own_after table old new (deed_of task reply) is_table own parts others,
)
  where
    parts : span_at new (task_groups table task)
        ≡ divided table (task_groups table task) (deed_effect (deed_of task reply) (union (span_at old (task_groups table task)))).0
    parts = ap (λ r. r.0) ran
        ∙ ap (λ gs. divided table gs (deed_effect (deed_of task reply) (union (span_at old (task_groups table task)))).0)
        (numbers-span_at old (task_groups table task))
