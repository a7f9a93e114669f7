-- What came of the layer that is out, and how it is settled.
use Rattle.std.specs.List.{AllZip}
use Rattle.std.specs.Prelude.{◌≡◌, ◌+◌, ◌<◌, List, [], ◌∷◌, ◌++◌, length, option_map}
use Rattle.front.specs.Fronts.{FrontView, FrontIsAt}
use Rattle.journal.specs.declared.step.Step.{Step}
use Rattle.journal.specs.declared.step.Step.TheVariants.{Settle}
use Rattle.journal.specs.declared.trace.TheConstants.{GREATEST_STEPS}
use Rattle.layer_results.specs.declared.done.DoneRow.{DoneRow}
use Rattle.resp.specs.Content.{content}
use Rattle.world.specs.Steps.{Made, Steps}
use Rattle.world.specs.World.{World, Ended, HasRun}

-- the row tells what came of the request
pub record IsToldBy (e : Ended) (row : DoneRow) : Type 0 where
  pub id : row.id ≡ e.id
  pub stamp : row.stamp ≡ e.stamp
  pub reply : e.reply ≡ option_map content row.reply

-- In a world that the front is at, the layer that is out has run, and the rows tell what came of its requests, of each at its
-- place. Some history of the steps that were made, of a Run for each layer that was settled, and of one for this layer led there.
pub record IsTrueOf (f : FrontView) (done : List DoneRow) : Type 0 where
  pub history : List Step
  pub world : World
  pub at : FrontIsAt f history world
  pub count : length history ≡ f.steps + f.layers + 1
  pub ended : List Ended
  pub has_run : world.layer ≡ HasRun ended
  pub told : AllZip IsToldBy ended done

-- in each world that the front was at, where the layer has run and the rows tell what came of it, a Settle is accepted, and the
-- front is at the world after it
pub record Settles (old : FrontView) (done : List DoneRow) (new : FrontView) : Type 0 where
  pub table : new.table ≡ old.table
  pub steps : new.steps ≡ old.steps + 1
  pub layers : new.layers ≡ old.layers + 1
  pub out : new.out ≡ []
  pub from_each : (h : List Step) (w : World) → FrontIsAt old h w → (es : List Ended) → w.layer ≡ HasRun es → AllZip IsToldBy es done →
      (w' : World) × Steps old.table w Settle Made w' × FrontIsAt new (h ++ Settle ∷ []) w'

-- no number has grown too large: a Run and a Settle more may be made
abbrev pub MaySettle : FrontView → Type 0
MaySettle f = f.steps + f.layers + 1 < GREATEST_STEPS
