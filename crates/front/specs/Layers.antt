-- What the layer, the store, the rows and the names of what starved of the system show of a world.
use Rattle.std.specs.List.{AllZip, flat_map}
use Rattle.std.specs.Prelude.{◌≡◌, ℕ, true, false, List, Some, Ok}
pub use Rattle.execution_order.specs.Rows.{IsRow}
use Rattle.groups.specs.GroupSet.{has}
use Rattle.journal.specs.Views.{RowView}
use Rattle.layer_planner.specs.declared.job.Job.{Job}
use Rattle.layer_results.specs.Results.{names_by}
use Rattle.placement.specs.Layout.{Layout}
use Rattle.shard_workers.specs.Runs.{outcome}
use Rattle.shard_exec.specs.Stamps.{last_of}
use Rattle.shard_exec.specs.StoreStates.{StoreState}
use Rattle.shard_exec.specs.declared.done.Ended as run
use Rattle.shards.specs.Joined.{joined}
use Rattle.groups.specs.Order.{In}
use Rattle.skeen_core.specs.declared.packet.Delivered.{Delivered}
use Rattle.groups.specs.declared.skip_id.SkipId.{SkipId}
use Rattle.groups.specs.declared.stamp.Stamp.{Stamp}
use Rattle.tasks.specs.Tasks.{task_reading}
use Rattle.world.specs.World.{World, Request, Ended}
use Rattle.world_laws.specs.Good.{Asked}
use Rattle.world_laws.specs.Headline.{rows_of}

-- ---- a layer that was taken

-- a delivered request, ready to be run: the task is the one that was submitted
pub record IsJob (asked : Asked) (d : Delivered) (j : Job) : Type 0 where
  pub id : j.id ≡ d.id
  pub stamp : j.stamp ≡ d.stamp
  pub groups : j.groups ≡ d.groups
  pub asked_so : (q : Request) × (asked d.id ≡ Some q) × (q.task ≡ j.asked.batch)

abbrev pub AreJobs : Asked → List Delivered → List Job → Type 0
AreJobs asked ds js = AllZip (IsJob asked) ds js

-- ---- a layer that was run

-- a request of it, as the store tells of it: its words say the task that was run
pub record IsEnded (e : Ended) (r : run.Ended) : Type 0 where
  pub id : r.id ≡ e.id
  pub stamp : r.stamp ≡ e.stamp
  pub reply : outcome r.reply ≡ e.reply
  pub says : task_reading r.words ≡ Ok e.task

abbrev pub AreEnded : List Ended → List run.Ended → Type 0
AreEnded es rs = AllZip IsEnded es rs

-- the names of what starved: of requests as a whole, and of members of those that were executed
abbrev pub starved_of : List run.Ended → List SkipId
starved_of rs = flat_map (λ r. names_by r.id r.words (outcome r.reply)) rs

-- ---- the store

-- The shards' maps, joined, are the contents; a shard's last stamp is that of a request which ended there.
pub record ShowsStore (t : Layout) (s : StoreState) (w : World) : Type 0 where
  pub table : s.table ≡ t
  pub lives : s.failed ≡ false
  pub contents : joined s.maps ≡ w.contents
  pub lasts : (g : ℕ) (stamp : Stamp) → last_of s.lasts g ≡ Some stamp →
      (e : Ended) × In e w.ended × (has e.groups g ≡ true) × (e.stamp ≡ stamp)

-- ---- the rows

-- one for each executed request, in the order of execution; those that starved as a whole have none
abbrev pub AreRows : List Ended → List RowView → Type 0
AreRows es kept = AllZip IsRow (rows_of es) kept
