-- What a placement document says.
use Rattle.std.specs.Prelude.{ℕ, suc, ◌<◌, ◌≤◌, ℤ, pos, List, [], ◌∷◌, Option, Some, None, option_and_then, codes, ◌==◌, ◌&&◌, nat_le}
use Rattle.std.specs.Prelude.{nat_lt, if◌then◌else◌}
use Rattle.toml.specs.Data.{Data, Items, no_items, item, Members, no_members, member, get_member, as_integer, as_array, as_table}
use Rattle.toml.specs.Parse.{parse_document}
use Rattle.placement.specs.declared.document.Range.{Range}
use Rattle.placement.specs.declared.slots.TheConstants.{SLOTS}

-- the first slot of the range isn't behind the last, and both are slots
pub record IsRange (range : Range) : Type 0 where
  pub ordered : range.from ≤ range.to
  pub slots : range.to < SLOTS

-- the number of shards, and ranges of slots with the shard that each names: integers, whether or not there are such
-- shards
pub record Document : Type 0 where
  pub shards : ℤ
  pub ranges : List Range

infixl 10 ◌>>=◌
abbrev pub ◌>>=◌ : {A B : Type 0} → Option A → (A → Option B) → Option B
o >>= f = option_and_then f o

-- how many keys a table has
abbrev pub size : Members → ℕ
size no_members = 0
size (member key value rest) = suc (size rest)

-- an integer that isn't negative, as a number
abbrev pub number : ℤ → Option ℕ
number (pos n) = Some n
number _ = None

-- the integer under a key, the number under it, which is an integer that isn't negative, and the array under a key
abbrev pub integer_at : List ℕ → Members → Option ℤ
integer_at key table = get_member key table >>= as_integer

abbrev pub number_at : List ℕ → Members → Option ℕ
number_at key table = integer_at key table >>= number

abbrev pub array_at : List ℕ → Members → Option Items
array_at key table = get_member key table >>= as_array

-- a range from one slot to another that isn't before it, both slots
abbrev pub range : ℕ → ℕ → ℤ → Option Range
range from to shard = if nat_le from to && nat_lt to SLOTS then Some (record { from = from; to = to; shard = shard }) else None

-- the range that a table says by the numbers `from` and `to` and the integer `shard`, beside which it has no key
abbrev pub range_in : Members → Option Range
range_in table = if size table == 3 then (do
  from ← number_at (codes "from") table
  to ← number_at (codes "to") table
  shard ← integer_at (codes "shard") table
  range from to shard) else None

abbrev pub range_of : Data → Option Range
range_of value = as_table value >>= range_in

-- the ranges that the items of an array say, where each says one
abbrev pub ranges_of : Items → Option (List Range)
ranges_of no_items = Some []
ranges_of (item value rest) = do
  range ← range_of value
  ranges ← ranges_of rest
  Some (range ∷ ranges)

-- what a table says by the integer `shards` and the array `range`, beside which it has no key
abbrev pub document_of : Members → Option Document
document_of table = if size table == 2 then (do
  shards ← integer_at (codes "shards") table
  items ← array_at (codes "range") table
  ranges ← ranges_of items
  Some (record { shards = shards; ranges = ranges })) else None

-- what a text says, where it is TOML of that shape
abbrev pub document_in : List ℕ → Option Document
document_in text = parse_document text >>= document_of
