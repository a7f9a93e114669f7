-- A cluster and its seats, as contracts see them.
use Rattle.std.specs.Prelude.{◌≡◌, ◌≢◌, ℕ, ◌+◌, ◌*◌, ◌<◌, ◌≤◌, List, [], length, ◌⊎◌, Some}
use Rattle.cluster.specs.Histories.{HistoryView, IsUnchanged, MayGoOn, IsRefused, IsFault}
use Rattle.cluster.specs.Outcomes.{IsAbove}
use Rattle.cluster.specs.Submits.{submits}
use Rattle.cluster.specs.Traces.{HasRoom}
use Rattle.cluster.specs.declared.cluster.TheConstants.{GREATEST_CLOSE}
use Rattle.cluster.specs.declared.fault.StepFault.{StepFault}
use Rattle.cluster.specs.declared.fault.StepFault.TheVariants.{NoConn, Memory}
use Rattle.groups.specs.declared.request.ConnId.{ConnId}
use Rattle.groups.specs.declared.request.RequestId.{RequestId}
use Rattle.journal.specs.declared.step.Step.{Step}
use Rattle.journal.specs.declared.step.Step.TheVariants.{Collect, Close}
use Rattle.journal.specs.declared.trace.TheConstants.{GREATEST_STEPS}
use Rattle.placement.specs.Layout.{Layout}
use Rattle.router.specs.Router.{waiting}
use Rattle.router.specs.declared.outcome.Outcome.{Outcome}
use Rattle.world.specs.Steps as world

-- ---- a seat

-- its connection, its floor, how many requests it has submitted, the number of the last one, and the steps that it has seen
pub record SeatView : Type 0 where
  pub conn : ConnId
  pub floor : ℕ
  pub count : ℕ
  pub last : ℕ
  pub seen : List Step

-- the id of the seat's last request
abbrev pub last_id : SeatView → RequestId
last_id s = record { conn = s.conn; seq = s.last }

-- ---- a cluster

-- its front and steps, the ledger's book, how many seats sat and stood, and how many requests those submitted that stood
pub record ClusterView : Type 0 where
  pub history : HistoryView
  pub book : ℕ
  pub sat : ℕ
  pub stood : ℕ
  pub back : ℕ

-- What each cluster is. Of the ledger's parts, `parts` are here, and each of the others is out with a seat; `requests`
-- is the book as a number.
pub record IsCluster (all parts requests : ℕ) (c : ClusterView) : Type 0 where
  pub booked : c.book ≡ submits c.history.steps
  pub counted : requests ≡ c.book
  pub seats : parts + c.sat ≡ all + c.stood
  pub sits : c.sat ≤ length c.history.steps
  pub within : length c.history.steps ≤ c.history.max_steps
  pub most : c.history.max_steps < all
  pub few : c.history.max_steps ≤ GREATEST_STEPS

-- For each seat that hasn't stood, room is kept in the trace for the Close of its connection, so many bytes for all.
pub record KeepsCloses (kept : ℕ) (c : ClusterView) : Type 0 where
  pub each : kept + c.stood * GREATEST_CLOSE ≡ c.sat * GREATEST_CLOSE
  pub room : HasRoom kept c.history.trace

-- a new cluster: no step was made, and keys lie by this table
pub record IsNew (t : Layout) (most : ℕ) (c : ClusterView) : Type 0 where
  pub table : c.history.front.table ≡ t
  pub steps : c.history.steps ≡ []
  pub ran : c.history.ran ≡ []
  pub max_steps : c.history.max_steps ≡ most
  pub book : c.book ≡ 0
  pub sat : c.sat ≡ 0
  pub stood : c.stood ≡ 0
  pub back : c.back ≡ 0

-- what is kept beside the history stays as it was
pub record SameBook (old new : ClusterView) : Type 0 where
  pub book : new.book ≡ old.book
  pub back : new.back ≡ old.back
  pub stood : new.stood ≡ old.stood

-- ---- refusals

-- the outcome is not that of the seat's last request, or its stamp isn't above the seat's floor
abbrev pub IsNotIts : SeatView → Outcome → Type 0
IsNotIts s o = (o.id.seq ≢ s.last) ⊎ ¬ IsAbove o.stamp s.floor

-- an outcome waits for the seat that isn't its own
pub record IsForeign (h : HistoryView) (s : SeatView) : Type 0 where
  pub outcome : Outcome
  pub waits : waiting h.front.router s.conn.0 ≡ Some outcome
  pub foreign : IsNotIts s outcome

-- an outcome waits for the seat, that of its last request, whose stamp is above its floor, and a step may be made
pub record CanCollect (h : HistoryView) (s : SeatView) : Type 0 where
  pub left : MayGoOn h (Collect s.conn)
  pub outcome : Outcome
  pub waits : waiting h.front.router s.conn.0 ≡ Some outcome
  pub own : outcome.id.seq ≡ s.last
  pub above : IsAbove outcome.stamp s.floor

-- why a seat collects nothing: its connection isn't open, or what waits isn't its own; there was no memory for the trace; or the step
-- is refused otherwise
abbrev pub IsCollectFault : HistoryView → SeatView → StepFault → Type 0
IsCollectFault h s NoConn = MayGoOn h (Collect s.conn) × (IsRefused h (Collect s.conn) world.NoConn ⊎ IsForeign h s)
IsCollectFault h s Memory = CanCollect h s
IsCollectFault h s fault = IsFault h (Collect s.conn) fault

-- the connection's Close is refused, not for want of memory, and nothing has changed
pub record StaysOpen (conn : ConnId) (old new : HistoryView) : Type 0 where
  pub fault : StepFault
  pub why : IsFault old (Close conn) fault
  pub ample : fault ≢ Memory
  pub unchanged : IsUnchanged old new
