-- What is told of a shared cluster that is closed, and of its trace.
use Rattle.std.specs.Prelude.{◌≡◌, ℕ, Bool, true, false, List, ◌++◌, length, ◌⊎◌}
use Rattle.front.specs.Looking.{IsQuiet}
use Rattle.cluster.specs.Clusters.{ClusterView}
use Rattle.cluster.specs.Counting.{all_executed, all_starved, as_word}
use Rattle.cluster.specs.Endings as cluster
use Rattle.cluster.specs.Histories.{HistoryView, IsLawful}
use Rattle.cluster.specs.Submits.{submits}
use Rattle.cluster.specs.Traces.{IsNotWhole}
use Rattle.cluster.specs.declared.closing.Closing.{Closing}
use Rattle.cluster.specs.declared.cluster.CloseFault as front
use Rattle.cluster.specs.declared.cluster.CloseFault.TheVariants as fault
use Rattle.journal.specs.TraceText.{trace_text}
use Rattle.placement.specs.Layout.{Layout}
use Rattle.serial_store.specs.Stores.{SerialState}
use Rattle.serial_store.specs.Stores as stores
use Rattle.shared_cluster.specs.declared.fault.CloseKind.{CloseKind}
use Rattle.shared_cluster.specs.declared.fault.CloseKind.TheVariants.{Failed, SeatsOut, NotQuiet, Disagree}
use Rattle.shared_cluster.specs.declared.held.CloseFault.{CloseFault}
use Rattle.shared_cluster.specs.declared.sight.Sight.{Sight}

-- This cluster is lawful and quiet, as many seats stood as sat, and what those submitted that stood is all that was submitted. The
-- store has not failed and is lawful, and has run the layers that were settled: the replies of the world of all steps, and what the
-- store holds, are those of one thread in stamp order. These are the numbers of its requests, of those that were executed, and of what
-- starved.
pub record Closes (t : Layout) (c : ClusterView) (store : SerialState) (closing : Closing) : Type 0 where
  pub lawful : IsLawful c.history
  pub table : c.history.front.table ≡ t
  pub quiet : IsQuiet c.history.front
  pub stood : c.stood ≡ c.sat
  pub back : c.back ≡ submits c.history.steps
  pub lives : store.store.failed ≡ false
  pub serial : stores.IsLawful t store.store store.runs
  pub right : cluster.IsRight c.history store
  pub requests : closing.requests ≡ submits c.history.steps
  pub executed : closing.executed ≡ as_word (all_executed c.history.ran)
  pub starved : closing.starved ≡ as_word (all_starved c.history.ran)

-- why a cluster isn't closed, told of one that no layer stopped
abbrev pub of_cluster : front.CloseFault → CloseKind
of_cluster fault.SeatsOut = SeatsOut
of_cluster fault.NotQuiet = NotQuiet
of_cluster fault.Disagree = Disagree

-- Why a cluster isn't closed beside this store: the first that applies. A layer was refused for good, or the cluster refuses.
abbrev pub RefusesClose : Bool → ClusterView → SerialState → CloseKind → Type 0
RefusesClose stopped c store Failed = (stopped ≡ true) ⊎ (store.store.failed ≡ true)
RefusesClose stopped c store SeatsOut =
    (stopped ≡ false) × (store.store.failed ≡ false) × cluster.IsCloseFault c store fault.SeatsOut
RefusesClose stopped c store NotQuiet =
    (stopped ≡ false) × (store.store.failed ≡ false) × cluster.IsCloseFault c store fault.NotQuiet
RefusesClose stopped c store Disagree =
    (stopped ≡ false) × (store.store.failed ≡ false) × cluster.IsCloseFault c store fault.Disagree

-- The text of this history's steps was appended, where a trace of them is kept of which nothing was handed on, and else nothing. It is
-- lawful.
pub record Writes (h : HistoryView) (before : List ℕ) (kept : Bool) (after : List ℕ) : Type 0 where
  pub lawful : IsLawful h
  pub text : kept ≡ true → after ≡ before ++ trace_text h.max_steps h.steps
  pub none : kept ≡ false → IsNotWhole h.trace × (after ≡ before)

-- ---- the same of a shared cluster, which was such a one when it was locked, as was the store

-- a cluster was closed beside a store
abbrev pub IsClosed : Layout → Closing → Type 0
IsClosed t closing = (c : ClusterView) × (store : SerialState) × Closes t c store closing

-- a cluster wasn't closed, for this reason
abbrev pub IsCloseFault : CloseFault → Type 0
IsCloseFault fault = (stopped : Bool) × (c : ClusterView) × (store : SerialState) × RefusesClose stopped c store fault.kind

-- the text of a trace was appended, where one is kept
abbrev pub IsWritten : List ℕ → Bool → List ℕ → Type 0
IsWritten before kept after = (h : HistoryView) × Writes h before kept after

-- ---- how far a cluster is

-- so many requests were submitted and so many steps made, and so many requests and members starved
pub record IsSight (h : HistoryView) (sight : Sight) : Type 0 where
  pub requests : sight.requests ≡ submits h.steps
  pub steps : sight.steps ≡ length h.steps
  pub starved : sight.starved ≡ as_word (all_starved h.ran)
