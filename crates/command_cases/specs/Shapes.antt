-- The shapes that cases have, each by where its keys stand. A case of one of these shapes looks at its own keys alone,
-- whatever its step; a case of one key has the shape `at_key`.
use Rattle.std.specs.Prelude.{Bool, List, [], ◌∷◌, map, Option, if◌then◌else◌}
use Rattle.std.specs.FinMap.{get, insert}
use Rattle.command_cases.specs.Case.{Case}
use Rattle.keyspace.specs.Map.{Map, set}
use Rattle.resp.specs.Content.{Content}
use Rattle.texts.specs.Texts.{Bytes, firsts}
use Rattle.values.specs.declared.Value.{Value}
use Rattle.values.specs.declared.Value.TheVariants.{Str}

-- what stands at each of these keys
abbrev pub values_at : Map → List Bytes → List (Option Value)
values_at m keys = map (get m) keys

-- the map is left; the answer is by what stands at the keys
abbrev pub at_each : List Bytes → (List (Option Value) → Content) → Case
at_each keys answer m = (m, answer (values_at m keys))

-- what a command leaves at two keys and what it answers, by what stood there
abbrev pub StepOfTwo : Type 0
StepOfTwo = Option Value → Option Value → (Option Value × Option Value) × Content

-- the map with these at two keys; at one key that is named twice, the second
abbrev pub set_two : Map → Bytes → Bytes → Option Value × Option Value → Map
set_two m first second left = set (set m first left.0) second left.1

abbrev pub at_two : Bytes → Bytes → StepOfTwo → Case
at_two first second step m = (set_two m first second (step (get m first) (get m second)).0, (step (get m first) (get m second)).1)

-- what is left at the target, and the answer, are by what stands there and at the sources
abbrev pub at_target : Bytes → List Bytes → (Option Value → List (Option Value) → Option Value × Content) → Case
at_target target sources step m =
    (set m target (step (get m target) (values_at m sources)).0, (step (get m target) (values_at m sources)).1)

-- the map with the second of each pair, as a string, at the first; of a key that is named twice, the last one stands
abbrev pub with_pairs : Map → List (Bytes × Bytes) → Map
with_pairs m [] = m
with_pairs m (pair ∷ pairs) = with_pairs (insert m pair.0 (Str pair.1)) pairs

-- whether the pairs are written, and the answer, are by what stands at their keys
abbrev pub at_pairs : List (Bytes × Bytes) → (List (Option Value) → Bool × Content) → Case
at_pairs pairs step m =
    ((if (step (values_at m (firsts pairs))).0 then with_pairs m pairs else m), (step (values_at m (firsts pairs))).1)
