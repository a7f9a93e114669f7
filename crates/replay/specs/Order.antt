-- Rows by their places, in the order of their stamps.
use Rattle.std.specs.Prelude.{◌≡◌, ℕ, List, Some, slice_get}
use Rattle.std.specs.List.{AllZip}
use Rattle.execution_order.specs.Entries.{Row}

-- a stamp's clock and group, and the place of the row that has it
abbrev pub Key : Type 0
Key = ℕ × ℕ × ℕ

-- the row stands at this place of the rows, and has this stamp
pub record IsPlaced (rows : List Row) (key : Key) (r : Row) : Type 0 where
  pub there : slice_get rows key.2 ≡ Some r
  pub clock : key.0 ≡ r.entry.stamp.clock
  pub group : key.1 ≡ r.entry.stamp.group

-- these keys are those of these rows, one by one
abbrev pub ArePlaced : List Row → List Key → List Row → Type 0
ArePlaced rows = AllZip (IsPlaced rows)
