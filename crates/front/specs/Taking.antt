-- A layer that is taken out of the router, one request after another.
use Rattle.std.specs.Prelude.{◌≡◌, List, [], ◌∷◌, ◌++◌}
use Rattle.delivery.specs.Ready.{IsLayer}
use Rattle.front.specs.Fronts.{FrontView, FrontIsAt}
use Rattle.front.specs.Making.{IsStep}
use Rattle.journal.specs.declared.step.Step.{Step}
use Rattle.journal.specs.declared.step.Step.TheVariants.{Take}
use Rattle.layer_planner.specs.declared.job.Job.{Job}
use Rattle.placement.specs.Layout.{Layout}
use Rattle.router.specs.Router.{RouterView}
use Rattle.skeen_core.specs.declared.packet.Delivered.{Delivered}
use Rattle.front.specs.Connections.{ShowsConnections}
use Rattle.front.specs.Layers.{AreJobs}
use Rattle.world.specs.Steps.{opening, Made, taken, Leads, Steps}
use Rattle.world.specs.World.{World, Layer, NoneTaken, Taken}

-- the world with this layer
abbrev pub with_layer : World → Layer → World
with_layer w layer = record w { layer = layer }

-- of the requests that are ready or lined up in a world in which no layer is there, those in front are out of the
-- router, and those behind wait in it
pub record IsTaking (t : Layout) (w : World) (front back : List Delivered) (r : RouterView) : Type 0 where
  pub steps : List Step
  pub leads : Leads t opening steps w
  pub none : w.layer ≡ NoneTaken
  pub layer : IsLayer w.queue (front ++ back)
  pub shows : ShowsConnections r (with_layer w (Taken front))

-- ---- a Take

-- in each world that the front was at a Take is accepted, and the front is at the world after it; what is handed out are the
-- requests that it takes there, as they were asked, and these are out
pub record Takes (old : FrontView) (jobs : List Job) (new : FrontView) : Type 0 where
  pub is_step : IsStep old new
  pub from_each : (h : List Step) (w : World) → FrontIsAt old h w →
      Steps old.table w Take Made (taken w new.out) × AreJobs w.asked new.out jobs
      × FrontIsAt new (h ++ Take ∷ []) (taken w new.out)
