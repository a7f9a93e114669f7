-- What holds of every world that a system shows.
use Rattle.std.specs.Prelude.{◌≡◌, false, List, Some}
use Rattle.groups.specs.declared.request.ConnId.{ConnId}
use Rattle.journal.specs.declared.step.Step.{Step}
use Rattle.journal.specs.declared.step.Step.TheVariants.{Collect}
use Rattle.placement.specs.Layout.{Layout}
use Rattle.skeen_core.specs.Group.{EachOnce}
use Rattle.system.specs.Halves.{IsAt}
use Rattle.system.specs.Reads.{table_of, failed}
use Rattle.system.specs.System.{SystemView, ShowsHistory}
use Rattle.world.specs.Steps.{opening, Effect, Collected, Steps, Makes}
use Rattle.world.specs.World.{World, Outcome}
use Rattle.world_laws.specs.Collecting.{collected_in, IsItsOwn}
use Rattle.world_laws.specs.Order.{OthersAreKept}

-- there is one, unless a worker's start was refused: some history of as many steps as were made has led to it
abbrev pub ShowsSome : SystemView → Type 0
ShowsSome s = failed s ≡ false → (h : List Step) × (w : World) × ShowsHistory s h w

-- it holds of each of them
abbrev pub OfItsWorlds : (Layout → World → Type 0) → SystemView → Type 0
OfItsWorlds P s = (h : List Step) (w : World) → IsAt s.halves h w → P (table_of s) w

-- a step changes no group there but the one that it brings a packet to
abbrev pub OthersKeepStill : SystemView → Type 0
OthersKeepStill s = (h : List Step) (w : World) → IsAt s.halves h w →
    (step : Step) (effect : Effect) (new : World) → Steps (table_of s) w step effect new → OthersAreKept w new step

-- each outcome was collected at most once
abbrev pub CollectedOnce : SystemView → Type 0
CollectedOnce s = (h : List Step) (w : World) → IsAt s.halves h w →
    (effects : List Effect) → Makes (table_of s) opening h effects w → EachOnce (collected_in effects)

-- and a connection collects there that of its own last request
abbrev pub CollectsItsOwn : SystemView → Type 0
CollectsItsOwn s = (h : List Step) (w : World) → IsAt s.halves h w →
    (effects : List Effect) → Makes (table_of s) opening h effects w →
    (conn : ConnId) (o : Outcome) (new : World) → Steps (table_of s) w (Collect conn) (Collected (Some o)) new →
    IsItsOwn (table_of s) h effects w conn o
