-- A layer: tasks that are run in units, each unit over the shards of its groups, in any order and by anyone.
use Rattle.std.specs.Prelude.{◌≡◌, ℕ, nat_eq, true, false, cond, List, [], ◌∷◌, length, map, slice_get, Option, Some, None}
use Rattle.std.specs.Cmp.Lexicographic.{pointwise}
use Rattle.std.specs.FinMap.{empty}
use Rattle.groups.specs.GroupSet.{has}
use Rattle.groups.specs.Order.{In}
use Rattle.keyspace.specs.Map.{Map}
use Rattle.layer_planner.specs.Units.{AreUnitsOf}
use Rattle.placement.specs.Layout.{Layout}
use Rattle.resp.specs.Content.{Content}
use Rattle.tasks.specs.Tasks.{Task, Deed, task_groups, deed_effect, deed_of}
use Rattle.shards.specs.Joined.{map_of_shard, Span, span_at, SpanRan}
use Rattle.shards.specs.Rows.{put_spans, emptied_each}

-- where two of the tasks share a group, they address the same groups
abbrev pub MeetAlike : Layout → List Task → Type 0
MeetAlike table layer =
    (c d : Task) (g : ℕ) → In c layer → In d layer
    → has (task_groups table c) g ≡ true → has (task_groups table d) g ≡ true → task_groups table c ≡ task_groups table d

-- tasks were run one after another over the same shards, or starved: what each answered, and what was left in the end
abbrev pub UnitRan : Layout → List Task → Span → List (Option Content) → Span → Type 0
UnitRan table [] before [] after = after ≡ before
UnitRan table [] before (o ∷ os) after = ⊥
UnitRan table (c ∷ cs) before [] after = ⊥
UnitRan table (c ∷ cs) before (o ∷ os) after = (mid : Span) × SpanRan table c before o mid × UnitRan table cs mid os after

-- of a layer, the tasks that address just these groups, and what they answered
abbrev pub tasks_with : Layout → List ℕ → List Task → List Task
tasks_with table groups [] = []
tasks_with table groups (c ∷ cs) =
    cond (pointwise nat_eq (task_groups table c) groups) (c ∷ tasks_with table groups cs) (tasks_with table groups cs)

abbrev pub outcomes_with : Layout → List ℕ → List Task → List (Option Content) → List (Option Content)
outcomes_with table groups (c ∷ cs) (o ∷ os) =
    cond (pointwise nat_eq (task_groups table c) groups) (o ∷ outcomes_with table groups cs os) (outcomes_with table groups cs os)
outcomes_with table groups _ _ = []

-- The shards before and after a layer: over the shards of each task's groups those that address just these were run, one
-- after another, or starved; a shard that no task addresses is as it was. Nothing is said of the order of the units.
pub record LayerRan (table : Layout) (old : List Map) (layer : List Task) (outcomes : List (Option Content))
    (new : List Map) : Type 0 where
  pub as_many : length outcomes ≡ length layer
  pub each : (c : Task) → In c layer
      → UnitRan table (tasks_with table (task_groups table c) layer) (span_at old (task_groups table c))
      (outcomes_with table (task_groups table c) layer outcomes) (span_at new (task_groups table c))
  pub others : (shard : ℕ) → ((c : Task) → In c layer → has (task_groups table c) shard ≡ false)
      → map_of_shard new shard ≡ map_of_shard old shard

-- ---- a layer run unit by unit

-- a unit of a layer: its places, its tasks, and the groups that each of them addresses
pub record Work : Type 0 where
  pub places : List ℕ
  pub tasks : List Task
  pub groups : List ℕ

-- these stand at these places of a list
abbrev pub StandAt : {X : Type 0} → List X → List ℕ → List X → Type 0
StandAt xs places ys = map (slice_get xs) places ≡ map Some ys

-- they are the units of the layer, in any order
pub record AreWorksOf (table : Layout) (layer : List Task) (works : List Work) : Type 0 where
  pub units : AreUnitsOf (map (task_groups table) layer) (map (λ w. w.places) works)
  pub stand : (w : Work) → In w works → StandAt layer w.places w.tasks
  pub groups : (w : Work) (c : Task) → In w works → In c w.tasks → task_groups table c ≡ w.groups

-- what became of a unit: what its tasks answered, and its shards
pub record Ran : Type 0 where
  pub outcomes : List (Option Content)
  pub span : Span

-- the unit was run over its shards, which it got as they were, and its outcomes stand in its places of the layer's
pub record IsRunOf (table : Layout) (old : List Map) (outcomes : List (Option Content)) (w : Work) (r : Ran) : Type 0 where
  pub ran : UnitRan table w.tasks (span_at old w.groups) r.outcomes r.span
  pub stand : StandAt outcomes w.places r.outcomes

-- what is left of the shards when those of each unit were taken out, empty ones in their places
abbrev pub left_of : List Map → List Work → List Map
left_of maps works = emptied_each empty maps (map (λ w. w.groups) works)

-- the shards with those that were run over in their places
abbrev pub with_rans : List Map → List Ran → List Map
with_rans maps rans = put_spans maps (map (λ r. r.span) rans)

-- between these two rows the unit was run in place: over the shards of its groups, the others left as they were
pub record RanInPlace (table : Layout) (outcomes : List (Option Content)) (old : List Map) (w : Work) (new : List Map)
    : Type 0 where
  pub answered : List (Option Content)
  pub ran : UnitRan table w.tasks (span_at old w.groups) answered (span_at new w.groups)
  pub stand : StandAt outcomes w.places answered
  pub others : (shard : ℕ) → has w.groups shard ≡ false → map_of_shard new shard ≡ map_of_shard old shard

-- units were run in place, one after another
abbrev pub WorksRan : Layout → List (Option Content) → List Map → List Work → List Map → Type 0
WorksRan table outcomes old [] new = new ≡ old
WorksRan table outcomes old (w ∷ ws) new =
    (mid : List Map) × RanInPlace table outcomes old w mid × WorksRan table outcomes mid ws new

-- ---- one map

-- tasks on one map, one after another, each on the map that those before it left. One that starved has no reply, and
-- leaves the map as it met it
abbrev pub AnsweredInTurn : Map → List Task → List (Option Content) → Map → Type 0
AnsweredInTurn old [] [] new = new ≡ old
AnsweredInTurn old [] (o ∷ os) new = ⊥
AnsweredInTurn old (c ∷ cs) [] new = ⊥
AnsweredInTurn old (c ∷ cs) (None ∷ os) new = AnsweredInTurn old cs os new
AnsweredInTurn old (c ∷ cs) (Some reply ∷ os) new =
    (reply ≡ (deed_effect (deed_of c reply) old).1) × AnsweredInTurn (deed_effect (deed_of c reply) old).0 cs os new

-- what was done of the tasks that were run, and their replies
abbrev pub executed_of : List Task → List (Option Content) → List Deed
executed_of [] os = []
executed_of (c ∷ cs) [] = []
executed_of (c ∷ cs) (None ∷ os) = executed_of cs os
executed_of (c ∷ cs) (Some reply ∷ os) = deed_of c reply ∷ executed_of cs os

abbrev pub replies_of : List (Option Content) → List Content
replies_of [] = []
replies_of (None ∷ os) = replies_of os
replies_of (Some reply ∷ os) = reply ∷ replies_of os
