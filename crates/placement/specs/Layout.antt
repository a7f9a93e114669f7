-- Which shard has a slot, and the table that a placement document gives.
use Rattle.std.specs.Prelude.{ℤ, pos, ◌≤ℤ◌, ◌<ℤ◌, map, ◌≡◌, ℕ, ◌<◌, ◌≤◌}
use Rattle.std.specs.Prelude.{Bool, ◌&&◌, nat_le, List, [], ◌∷◌, length, slice_index, All}
use Rattle.std.specs.Prelude.{filter, Some, None}
use Rattle.placement.specs.Document.{Document, document_in}
use Rattle.placement.specs.Slot.{slot}
use Rattle.placement.specs.declared.document.Range.{Range}
use Rattle.placement.specs.declared.slots.TheConstants.{SLOTS}
use Rattle.placement.specs.declared.fault.TableFault.{TableFault}
use Rattle.placement.specs.declared.fault.TableFault.TheVariants.{Toml, Missing, Twice, Shard, Memory}

-- a table: how many shards there are, and the shard of each slot
pub record Layout : Type 0 where
  pub shards : ℕ
  pub slots : List ℕ

-- what each table is: there are 1 to 64 shards, and each of the slots has one of them
pub record IsTable (t : Layout) : Type 0 where
  pub some_shard : 0 < t.shards
  pub at_most_64 : t.shards ≤ 64
  pub each_slot : length t.slots ≡ SLOTS
  pub in_range : (s : ℕ) → s < SLOTS → slice_index t.slots s < t.shards

-- the shard on which a key lies
abbrev pub shard_of : Layout → List ℕ → ℕ
shard_of t key = slice_index t.slots (slot key)

-- there are 1 to 64 shards, and each range names one of them, counted from 0
pub record KnowsShards (d : Document) : Type 0 where
  pub some_shard : pos 1 ≤ℤ d.shards
  pub at_most_64 : d.shards ≤ℤ pos 64
  pub named : All (λ r. (pos 0 ≤ℤ r.shard) × (r.shard <ℤ d.shards)) d.ranges

-- the range has the slot
abbrev pub has_slot : ℕ → Range → Bool
has_slot s range = nat_le range.from s && nat_le s range.to

-- the shards that a slot's ranges name, in the order of the ranges
abbrev pub shards_at : ℕ → List Range → List ℤ
shards_at s ranges = map (λ r. r.shard) (filter (has_slot s) ranges)

-- a slot is in two ranges; a slot is in none
abbrev pub SomeTwice : List Range → Type 0
SomeTwice ranges = (s : ℕ) × (s < SLOTS) × (1 < length (shards_at s ranges))

abbrev pub SomeMissing : List Range → Type 0
SomeMissing ranges = (s : ℕ) × (s < SLOTS) × (shards_at s ranges ≡ [])

-- the table that a document gives: its number of shards, and for each slot the shard of the one range that has it
pub record Gives (d : Document) (t : Layout) : Type 0 where
  pub known : KnowsShards d
  pub shards : d.shards ≡ pos t.shards
  pub slots : (s : ℕ) → s < SLOTS → shards_at s d.ranges ≡ pos (slice_index t.slots s) ∷ []

-- what is wrong with a document that gives no table; of several faults the first one is told
abbrev pub IsWrong : TableFault → Document → Type 0
IsWrong Shard d = ¬ KnowsShards d
IsWrong Twice d = KnowsShards d × SomeTwice d.ranges
IsWrong Missing d = KnowsShards d × (¬ SomeTwice d.ranges) × SomeMissing d.ranges
IsWrong Toml d = ⊥
IsWrong Memory d = ⊥

-- the text says a document, and the document gives the table
abbrev pub IsTableOf : List ℕ → Layout → Type 0
IsTableOf text table = (d : Document) × (document_in text ≡ Some d) × Gives d table

-- what is wrong with a text that is refused; want of memory says nothing of the text
abbrev pub IsRefused : TableFault → List ℕ → Type 0
IsRefused Toml text = document_in text ≡ None
IsRefused Memory text = Unit {0}
IsRefused fault text = (d : Document) × (document_in text ≡ Some d) × IsWrong fault d
