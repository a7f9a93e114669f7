-- What the calls of a hash leave: a list of pairs of a field and its value, in which no field stands twice.
use Rattle.std.specs.Prelude.{ℕ, List, [], ◌∷◌, map, Option}
use Rattle.std.specs.Global.{Vec}
use Rattle.std.specs.Map.{lookup, remove_entry}
use Rattle.std.specs.Str.{bytes_eq}
use Rattle.indexmap.specs.IndexMap.{insert_entry}
use Rattle.texts.specs.Texts.{Bytes}

-- the pairs that these entries of a table are
abbrev pub pairs_seen : List (Bytes × Vec ℕ) → List (Bytes × Bytes)
pairs_seen entries = map (λ e. (e.0, e.1.items)) entries

-- the value of a field, if it is there
abbrev pub field_value : List (Bytes × Bytes) → Bytes → Option Bytes
field_value pairs field = lookup (bytes_eq field) pairs

-- the pairs with this value at the field: a field that is there keeps its place, and a new one goes last
abbrev pub with_field : List (Bytes × Bytes) → Bytes → Bytes → List (Bytes × Bytes)
with_field pairs field value = insert_entry bytes_eq pairs field value

-- the pairs without the field; the others keep their order
abbrev pub without_field : List (Bytes × Bytes) → Bytes → List (Bytes × Bytes)
without_field pairs field = remove_entry (bytes_eq field) pairs

-- the pairs with each of these fields at its value, one after another
abbrev pub with_fields : List (Bytes × Bytes) → List (Bytes × Bytes) → List (Bytes × Bytes)
with_fields pairs [] = pairs
with_fields pairs (pair ∷ more) = with_fields (with_field pairs pair.0 pair.1) more

-- the pairs without these fields
abbrev pub without_fields : List (Bytes × Bytes) → List Bytes → List (Bytes × Bytes)
without_fields pairs [] = pairs
without_fields pairs (field ∷ more) = without_fields (without_field pairs field) more
