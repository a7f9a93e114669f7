-- The kinds of value, and what is left at a key of a list, a hash or a set that may have become empty.
use Rattle.std.specs.Prelude.{ℕ, List, Option, codes}
use Rattle.std.specs.Option.{option_map}
use Rattle.texts.specs.Texts.{Bytes}
use Rattle.values.specs.ListValue.{nonempty}
use Rattle.values.specs.declared.Value.{Value}
use Rattle.values.specs.declared.Value.TheVariants as kind

-- the name of a value's type
abbrev pub type_name : Value → List ℕ
type_name (kind.Str text) = codes "string"
type_name (kind.List items) = codes "list"
type_name (kind.Hash pairs) = codes "hash"
type_name (kind.Set members) = codes "set"

-- the value of a key that holds these items, if there are any
abbrev pub list_value : List Bytes → Option Value
list_value items = option_map kind.List (nonempty items)

-- the value of a key that holds these pairs, if there are any
abbrev pub hash_value : List (Bytes × Bytes) → Option Value
hash_value pairs = option_map kind.Hash (nonempty pairs)

-- the value of a key that holds these members, if there are any
abbrev pub set_value : List Bytes → Option Value
set_value members = option_map kind.Set (nonempty members)
