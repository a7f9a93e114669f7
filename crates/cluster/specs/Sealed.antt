-- What goes from one lock to the other, sealed: a layer that was handed out, and what came of it.
use Rattle.std.specs.List.{AllZip}
use Rattle.std.specs.Prelude.{◌≡◌, ℕ, List, [], ◌∷◌, ◌++◌, length, Some, Ok}
use Rattle.journal.specs.declared.step.Step.{Step}
use Rattle.layer_planner.specs.declared.job.Job.{Job}
use Rattle.layer_results.specs.declared.done.DoneRow.{DoneRow}
use Rattle.order_laws.specs.Takes.{HandsOut}
use Rattle.placement.specs.Layout.{Layout}
use Rattle.shard_exec.specs.Layers.{AddressTheirGroups}
use Rattle.skeen_core.specs.declared.packet.Delivered.{Delivered}
use Rattle.front.specs.Layers.{AreJobs}
use Rattle.tasks.specs.Tasks.{task_reading}
use Rattle.world.specs.Steps.{opening, Leads}
use Rattle.world.specs.World.{World, Request}
use Rattle.world_laws.specs.Good.{Asked}

-- ---- a layer that was handed out

-- the layer with its number, and the steps of which the Take with this number has handed it out
pub record TakenView : Type 0 where
  pub layer : List Job
  pub number : ℕ
  pub told : List Step

-- the Take of this number of these steps handed out these requests, as they were asked; each addresses the groups of its keys
pub record IsTaken (t : Layout) (v : TakenView) : Type 0 where
  pub world : World
  pub leads : Leads t opening v.told world
  pub layer : List Delivered
  pub hands_out : HandsOut t v.told v.number layer
  pub jobs : AreJobs world.asked layer v.layer
  pub addressed : AddressTheirGroups t v.layer

-- ---- what came of it

-- what came of a layer, its number, the steps, and all that the store has run
pub record RanView : Type 0 where
  pub done : List DoneRow
  pub number : ℕ
  pub told : List Step
  pub ran : List (List DoneRow)

-- the row is that of the request, and its words say what was asked
pub record IsRowOf (asked : Asked) (d : Delivered) (row : DoneRow) : Type 0 where
  pub id : row.id ≡ d.id
  pub stamp : row.stamp ≡ d.stamp
  pub says : (q : Request) × (asked d.id ≡ Some q) × (task_reading row.words ≡ Ok q.task)

-- The Take of this number of these steps handed out the requests of which this came. It is the last that the store has run,
-- behind as many as the number says.
pub record IsRan (t : Layout) (v : RanView) : Type 0 where
  pub world : World
  pub leads : Leads t opening v.told world
  pub layer : List Delivered
  pub hands_out : HandsOut t v.told v.number layer
  pub rows : AllZip (IsRowOf world.asked) layer v.done
  pub before : List (List DoneRow)
  pub last : v.ran ≡ before ++ v.done ∷ []
  pub counted : v.number ≡ length before
