-- What contracts see of a journal.
use Rattle.std.specs.Prelude.{ℕ, List}
use Rattle.groups.specs.declared.request.RequestId.{RequestId}
use Rattle.groups.specs.declared.stamp.Stamp.{Stamp}
use Rattle.journal.specs.declared.step.Step.{Step}

-- what an executed request came to: its id, its final stamp, its words, and the bytes that its client got
pub record RowView : Type 0 where
  pub id : RequestId
  pub stamp : Stamp
  pub words : List (List ℕ)
  pub reply : List ℕ

abbrev pub row_view : RequestId → Stamp → List (List ℕ) → List ℕ → RowView
row_view id stamp words reply = record { id = id; stamp = stamp; words = words; reply = reply }

-- rows one behind another, and for how many bytes and how many rows there is room
pub record PackedView : Type 0 where
  pub rows : List RowView
  pub bytes : ℕ
  pub ends : ℕ

-- rows, and how many more fit without memory
pub record RowsView : Type 0 where
  pub rows : List RowView
  pub room : ℕ

-- at most how many steps may be made, the steps that were made, in order, and how many more bytes fit without memory
pub record TraceView : Type 0 where
  pub max : ℕ
  pub steps : List Step
  pub room : ℕ
