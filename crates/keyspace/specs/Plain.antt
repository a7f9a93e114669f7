-- What a table of entries says as a map.
use Rattle.std.specs.Prelude.{ℕ, List}
use Rattle.std.specs.FinMap.{from_entries}
use Rattle.keyspace.specs.Map.{Map}
use Rattle.values.specs.declared.Value.{Value}

-- the map of these entries
abbrev pub map_of : List (List ℕ × Value) → Map
map_of es = from_entries es
