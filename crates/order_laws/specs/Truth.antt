-- What came of a history's layers, beside the layers as a store has run them.
use Rattle.std.specs.Prelude.{◌≡◌, List, [], ◌∷◌, ◌++◌, map, Some}
use Rattle.execution_order.specs.Serial.{RanLayer, all_rows, all_starved, IsSerial}
use Rattle.groups.specs.Order.{In}
use Rattle.journal.specs.declared.step.Step.{Step}
use Rattle.journal.specs.declared.step.Step.TheVariants.{Run}
use Rattle.order_laws.specs.Layers.{Yields, run_by}
use Rattle.placement.specs.Layout.{Layout}
use Rattle.skeen_core.specs.declared.packet.Delivered.{Delivered}
use Rattle.world.specs.Steps.{opening, Ran, starved_among, after_all, Steps}
use Rattle.world.specs.World.{World, Request, Ended, Taken, HasRun}
use Rattle.world_laws.specs.Good.{Asked, all_delivered}
use Rattle.world_laws.specs.Headline.{rows_of}

-- the layer as a store that ends its requests so has run it
abbrev pub ran_as : List Ended → RanLayer
ran_as es = record { rows = rows_of es; starved = starved_among es }

-- these are the layers that the steps ran, in the order of their Runs
pub record AreRunsOf (t : Layout) (steps : List Step) (w : World) (layers : List RanLayer) : Type 0 where
  pub ended : List (List Ended)
  pub runs : Yields run_by t opening steps ended w
  pub each : layers ≡ map ran_as ended

-- this came of the requests of a layer, of each with the task that was asked
pub record CameOf (asked : Asked) (layer : List Delivered) (es : List Ended) : Type 0 where
  pub each : all_delivered es ≡ layer
  pub tasks : (e : Ended) → In e es → (q : Request) × (asked e.id ≡ Some q) × (e.task ≡ q.task)

-- the world in which the layer has run, and this came of it
abbrev pub with_run : World → List Ended → World
with_run w es = record w { layer = HasRun es; ended = w.ended ++ es; contents = after_all w.contents es }

-- ---- the laws

-- the rows and the names of what has ended are those of the layers that were run
abbrev pub RowsAreOfRuns : Type 0
RowsAreOfRuns = (t : Layout) (steps : List Step) (w : World) (layers : List RanLayer) → AreRunsOf t steps w layers →
    (rows_of w.ended ≡ all_rows layers) × (starved_among w.ended ≡ all_starved layers)

-- each reply there is what one thread gets
abbrev pub RunsAreSerial : Type 0
RunsAreSerial = (t : Layout) (steps : List Step) (w : World) (layers : List RanLayer) → AreRunsOf t steps w layers →
    IsSerial t layers

-- Where a layer waits to be run, and this came of it in a store whose replies, behind those of the layers before it, are what
-- one thread gets: the world runs the layer, with just those starving that starved in the store, and the same comes of it.
abbrev pub SerialIsTrue : Type 0
SerialIsTrue = (t : Layout) (steps : List Step) (w : World) (layers : List RanLayer) → AreRunsOf t steps w layers →
    (layer : List Delivered) (es : List Ended) → w.layer ≡ Taken layer → CameOf w.asked layer es →
    IsSerial t (layers ++ ran_as es ∷ []) →
    Steps t w (Run (starved_among es)) (Ran (starved_among es)) (with_run w es)
