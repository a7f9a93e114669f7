-- A layer that is handed out, and what came of it that is settled.
use Rattle.std.specs.List.{AllZip}
use Rattle.std.specs.Prelude.{◌≡◌, ◌≢◌, ◌+◌, ◌≤◌, List, [], ◌∷◌, ◌++◌, length, ◌⊎◌, option_map, None, Ok}
use Rattle.cluster.specs.Histories.{HistoryView, IsMade}
use Rattle.cluster.specs.Sealed.{TakenView, RanView}
use Rattle.cluster.specs.declared.fault.StepFault.{StepFault}
use Rattle.cluster.specs.declared.fault.StepFault.TheVariants.{NoLayer, Memory}
use Rattle.journal.specs.declared.step.Step.TheVariants.{Take, Run, Settle}
use Rattle.layer_results.specs.Results.{names_of}
use Rattle.layer_results.specs.declared.done.DoneRow.{DoneRow}
use Rattle.order_laws.specs.Truth.{with_run}
use Rattle.resp.specs.Content.{content}
use Rattle.front.specs.Layers.{AreJobs}
use Rattle.tasks.specs.Tasks.{task_reading}
use Rattle.world.specs.Steps.{opening, Ran, Made, Steps, Leads, taken}
use Rattle.world.specs.World.{World, Ended}

-- A Take was made, and these are the requests of its layer, as they were asked. The layer has the number of those that were settled
-- before it, and all steps so far.
pub record HandsOut (old : HistoryView) (v : TakenView) (new : HistoryView) : Type 0 where
  pub made : IsMade old Take Made new
  pub number : v.number ≡ old.front.layers
  pub told : v.told ≡ new.steps
  pub after : made.after ≡ taken made.world new.front.out
  pub are_jobs : AreJobs made.world.asked new.front.out v.layer

-- what came of a request is what the row tells
pub record IsToldBy (e : Ended) (row : DoneRow) : Type 0 where
  pub id : row.id ≡ e.id
  pub stamp : row.stamp ≡ e.stamp
  pub reply : e.reply ≡ option_map content row.reply
  pub says : task_reading row.words ≡ Ok e.task

-- A Run, with what starved, and a Settle are behind the steps. In the world of the steps the layer is run so, and this is what comes of
-- it: each request gets there the reply that its row tells.
pub record IsSettled (old : HistoryView) (done : List DoneRow) (new : HistoryView) : Type 0 where
  pub left : length old.steps + 2 ≤ old.max_steps
  pub max_steps : new.max_steps ≡ old.max_steps
  pub steps : new.steps ≡ old.steps ++ Run (names_of done) ∷ Settle ∷ []
  pub table : new.front.table ≡ old.front.table
  pub out : new.front.out ≡ []
  pub ran : new.ran ≡ old.ran ++ done ∷ []
  pub world : World
  pub leads : Leads old.front.table opening old.steps world
  pub ended : List Ended
  pub runs : Steps old.front.table world (Run (names_of done)) (Ran (names_of done)) (with_run world ended)
  pub after : World
  pub settles : Steps old.front.table (with_run world ended) Settle Made after
  pub told : AllZip IsToldBy ended done

-- Why nothing is settled: no layer is out, or another one than that of this number; or it is that one, and there was no memory for the
-- trace that is kept.
abbrev pub IsSettleFault : HistoryView → RanView → StepFault → Type 0
IsSettleFault h v NoLayer = (h.front.out ≡ []) ⊎ (v.number ≢ h.front.layers)
IsSettleFault h v Memory = (h.front.out ≢ []) × (v.number ≡ h.front.layers) × (h.trace ≢ None)
IsSettleFault h v fault = ⊥
