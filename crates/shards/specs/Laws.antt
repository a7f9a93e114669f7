-- What holds of the shards' maps and the one map that they are together.
use Rattle.std.specs.Prelude.{◌≡◌, ℕ, false, List, length, map, Option, Some}
use Rattle.std.specs.FinMap.{get, empty}
use Rattle.std.specs.List.{AllZip}
use Rattle.groups.specs.GroupSet.{has}
use Rattle.keyspace.specs.Map.{Map}
use Rattle.placement.specs.Layout.{Layout, IsTable, shard_of}
use Rattle.resp.specs.Content.{Content}
use Rattle.tasks.specs.Tasks.{Task, task_groups, deed_effect, deed_of, deeds_in_turn}
use Rattle.shards.specs.Joined.{joined, map_of_shard, HasOwnKeys, span_at, SpanRan}
use Rattle.shards.specs.Rows.{taken_out_each}
use Rattle.shards.specs.Layer.{MeetAlike, LayerRan, Work, Ran, AreWorksOf, IsRunOf, left_of, with_rans, WorksRan, AnsweredInTurn}
use Rattle.shards.specs.Layer.{executed_of, replies_of}

-- the joined map has at a key what the key's shard has there
abbrev pub KeysLieOnTheirShards : Type 0
KeysLieOnTheirShards = (table : Layout) (maps : List Map) (key : List ℕ) → HasOwnKeys table maps
    → get (joined maps) key ≡ get (map_of_shard maps (shard_of table key)) key

-- a task that is run over the shards of its groups is run on the joined map
abbrev pub SpansAreJoined : Type 0
SpansAreJoined =
    (table : Layout) (old new : List Map) (task : Task) (reply : Content) → IsTable table → HasOwnKeys table old
    → SpanRan table task (span_at old (task_groups table task)) (Some reply) (span_at new (task_groups table task))
    → ((shard : ℕ) → has (task_groups table task) shard ≡ false → map_of_shard new shard ≡ map_of_shard old shard)
    → ((joined new, reply) ≡ deed_effect (deed_of task reply) (joined old)) × HasOwnKeys table new

-- the tasks of a layer, run in units, each over the shards of its groups, are run one after another on the joined map,
-- in the layer's order
abbrev pub LayersAreInTurn : Type 0
LayersAreInTurn =
    (table : Layout) (old new : List Map) (layer : List Task) (outcomes : List (Option Content))
    → IsTable table → HasOwnKeys table old → MeetAlike table layer → LayerRan table old layer outcomes new
    → AnsweredInTurn (joined old) layer outcomes (joined new) × HasOwnKeys table new

-- each unit of a layer gets the shards of its groups as they were, also where they are taken out one after another
abbrev pub TakenOutAsTheyWere : Type 0
TakenOutAsTheyWere =
    (table : Layout) (maps : List Map) (layer : List Task) (works : List Work) → AreWorksOf table layer works
    → taken_out_each empty maps (map (λ w. w.groups) works) ≡ map (λ w. span_at maps w.groups) works

-- The shards of each unit are taken out, the units are run in whatever parts they were dealt to, the shards are put back in
-- their places, and the outcomes stand in the places of their tasks: so the tasks of the layer are run one after
-- another on the joined map
abbrev pub PartsAreInTurn : Type 0
PartsAreInTurn =
    (table : Layout) (old : List Map) (layer : List Task) (works : List Work) (rans : List Ran)
    (outcomes : List (Option Content))
    → IsTable table → HasOwnKeys table old → length old ≡ table.shards → AreWorksOf table layer works
    → length outcomes ≡ length layer → AllZip (IsRunOf table old outcomes) works rans
    → LayerRan table old layer outcomes (with_rans (left_of old works) rans)
    × AnsweredInTurn (joined old) layer outcomes (joined (with_rans (left_of old works) rans))
    × HasOwnKeys table (with_rans (left_of old works) rans)

-- so they are where the units are run in place, one after another
abbrev pub WorksAreInTurn : Type 0
WorksAreInTurn =
    (table : Layout) (old new : List Map) (layer : List Task) (works : List Work) (outcomes : List (Option Content))
    → IsTable table → HasOwnKeys table old → AreWorksOf table layer works
    → length outcomes ≡ length layer → WorksRan table outcomes old works new
    → LayerRan table old layer outcomes new × AnsweredInTurn (joined old) layer outcomes (joined new) × HasOwnKeys table new

-- what is answered in turn is what one thread does with the tasks that didn't starve, each but for its members that did
abbrev pub StarvedLeaveNoTrace : Type 0
StarvedLeaveNoTrace =
    (old new : Map) (tasks : List Task) (outcomes : List (Option Content))
    → AnsweredInTurn old tasks outcomes new
    → (new, replies_of outcomes) ≡ deeds_in_turn old (executed_of tasks outcomes)
