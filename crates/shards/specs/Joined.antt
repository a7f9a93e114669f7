-- The maps of the shards as one map, and a task that is run over some of the shards.
use Rattle.std.specs.Prelude.{◌≡◌, ℕ, ◌==◌, List, [], ◌∷◌, map, slice_index_or, Option, Some, None, IsSome}
use Rattle.std.specs.FinMap.{get, empty, entries, retain_keys}
use Rattle.std.specs.List.{AllByRecursion}
use Rattle.keyspace.specs.Map.{Map, with_entries}
use Rattle.placement.specs.Layout.{Layout, shard_of}
use Rattle.resp.specs.Content.{Content}
use Rattle.tasks.specs.Tasks.{Task, Deed, deed_effect, deed_of}

-- the union of maps: at each key what the first of them that has the key has there
abbrev pub joined : List Map → Map
joined [] = empty
joined (m ∷ ms) = with_entries (joined ms) (entries m)

-- the map of the shard of this number
abbrev pub map_of_shard : List Map → ℕ → Map
map_of_shard maps shard = slice_index_or maps shard empty

-- the map has only keys that the table places on the shard
abbrev pub HasKeysOf : Layout → ℕ → Map → Type 0
HasKeysOf table shard m = (key : List ℕ) → IsSome (get m key) → shard_of table key ≡ shard

-- each shard's map has only keys that the table places there
abbrev pub HasOwnKeys : Layout → List Map → Type 0
HasOwnKeys table maps = (shard : ℕ) → HasKeysOf table shard (map_of_shard maps shard)

-- ---- some of the shards

-- shards' maps, each with the shard's number
abbrev pub Span : Type 0
Span = List (ℕ × Map)

abbrev pub numbers : Span → List ℕ
numbers span = map (λ s. s.0) span

-- the union of a span's maps
abbrev pub union : Span → Map
union span = joined (map (λ s. s.1) span)

abbrev pub SpanHasOwnKeys : Layout → Span → Type 0
SpanHasOwnKeys table span = AllByRecursion (λ s. HasKeysOf table s.0 s.1) span

-- the shards of these numbers
abbrev pub span_at : List Map → List ℕ → Span
span_at maps groups = map (λ g. (g, map_of_shard maps g)) groups

-- what a map has at the keys that lie on a shard
abbrev pub part_of : Layout → Map → ℕ → Map
part_of table m shard = retain_keys m (λ key. shard_of table key == shard)

-- a map divided among shards: to each what it has at the keys that lie there
abbrev pub divided : Layout → List ℕ → Map → Span
divided table groups m = map (λ g. (g, part_of table m g)) groups

-- a deed over the shards of a span: its effect on their union, which is then divided among them
abbrev pub span_effect : Layout → Deed → Span → Span × Content
span_effect table deed span =
    (divided table (numbers span) (deed_effect deed (union span)).0, (deed_effect deed (union span)).1)

-- what a task left of a span, and what it answered, which tells what of it was done; where it starved there is no reply, and the
-- span is as it was
abbrev pub SpanRan : Layout → Task → Span → Option Content → Span → Type 0
SpanRan table task before None after = after ≡ before
SpanRan table task before (Some reply) after = (after, reply) ≡ span_effect table (deed_of task reply) before
