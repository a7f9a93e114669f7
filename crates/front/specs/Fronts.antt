-- What a front shows of a world: its connections, its groups with their packets and queues, and the layer that is out.
use Rattle.std.specs.Prelude.{◌≡◌, ◌≢◌, ℕ, ◌+◌, List, [], length}
use Rattle.journal.specs.declared.step.Step.{Step}
use Rattle.multicast.specs.Multicast.{MulticastView}
use Rattle.placement.specs.Layout.{Layout, IsTable}
use Rattle.router.specs.Router.{RouterView}
use Rattle.skeen_core.specs.declared.packet.Delivered.{Delivered}
use Rattle.front.specs.Connections.{ShowsConnections}
use Rattle.front.specs.Multicast.{ShowsMulticast}
use Rattle.world.specs.Steps.{opening, Leads}
use Rattle.world.specs.World.{World, Layer, NoneTaken, Taken, HasRun}
use Rattle.world_laws.specs.Good.{all_delivered}

-- the multicast, apart from how many more packets fit without memory
abbrev pub roomless : MulticastView → MulticastView
roomless m = record m { room = 0 }

pub record FrontView : Type 0 where
  pub table : Layout
  pub router : RouterView
  pub multicast : MulticastView
  pub out : List Delivered  -- the requests of the layer that is out, in its order; none where none is
  pub steps : ℕ  -- how many calls made a step
  pub layers : ℕ  -- how many layers were settled

-- ---- what it shows

-- A layer that was taken is out, and stays out when it is run, until it is settled.
abbrev pub IsOut : Layer → List Delivered → Type 0
IsOut NoneTaken out = out ≡ []
IsOut (Taken ds) out = (out ≡ ds) × (ds ≢ [])
IsOut (HasRun es) out = (out ≡ all_delivered es) × (es ≢ [])

pub record FrontShows (f : FrontView) (w : World) : Type 0 where
  pub connections : ShowsConnections f.router w
  pub multicast : ShowsMulticast f.table f.multicast w
  pub out : IsOut w.layer f.out

-- these steps lead to the world, and the front shows it
pub record FrontIsAt (f : FrontView) (h : List Step) (w : World) : Type 0 where
  pub leads : Leads f.table opening h w
  pub shows : FrontShows f w

-- ---- what each front is

abbrev pub HasNotRun : Layer → Type 0
HasNotRun NoneTaken = Unit {0}
HasNotRun (Taken ds) = Unit {0}
HasNotRun (HasRun es) = ⊥

-- some history led here, of the steps that were made and a Run for each layer that was settled
pub record IsFront (f : FrontView) : Type 0 where
  pub is_table : IsTable f.table
  pub history : List Step
  pub world : World
  pub at : FrontIsAt f history world
  pub count : length history ≡ f.steps + f.layers
  pub not_run : HasNotRun world.layer

-- a new front: nothing has happened
pub record IsNew (t : Layout) (f : FrontView) : Type 0 where
  pub table : f.table ≡ t
  pub no_steps : f.steps ≡ 0
  pub no_layers : f.layers ≡ 0
  pub at : FrontIsAt f [] opening
