-- Why a cluster isn't closed, and what it is where it is.
use Rattle.std.specs.Prelude.{◌≡◌, ◌≢◌, false, length}
use Rattle.cluster.specs.Clusters.{ClusterView}
use Rattle.cluster.specs.Histories.{HistoryView}
use Rattle.cluster.specs.declared.cluster.CloseFault.{CloseFault}
use Rattle.cluster.specs.declared.cluster.CloseFault.TheVariants.{SeatsOut, NotQuiet, Disagree}
use Rattle.execution_order.specs.Entries.{rows_by_stamp}
use Rattle.front.specs.Looking.{IsQuiet}
use Rattle.serial_store.specs.Stores.{SerialState}
use Rattle.shards.specs.Joined.{joined}
use Rattle.world.specs.Steps.{opening, Leads}
use Rattle.world.specs.World.{World}
use Rattle.world_laws.specs.Headline.{IsOneThread, rows_of}

-- why a cluster isn't closed: the first that applies
abbrev pub IsCloseFault : ClusterView → SerialState → CloseFault → Type 0
IsCloseFault c store SeatsOut = c.stood ≢ c.sat
IsCloseFault c store NotQuiet = (c.stood ≡ c.sat) × ¬ IsQuiet c.history.front
IsCloseFault c store Disagree = (c.stood ≡ c.sat) × IsQuiet c.history.front × (length c.history.ran ≢ length store.runs)

-- What the store holds, and the replies of the world of all steps, are those of one thread that runs the executed requests, sorted by
-- their final stamps, on one map; unless a worker's start was refused, for then of the contents nothing is said.
pub record IsRight (h : HistoryView) (store : SerialState) : Type 0 where
  pub world : World
  pub leads : Leads h.front.table opening h.steps world
  pub ran : h.ran ≡ store.runs
  pub one_thread : store.store.failed ≡ false → IsOneThread (joined store.store.maps) (rows_by_stamp (rows_of world.ended))
