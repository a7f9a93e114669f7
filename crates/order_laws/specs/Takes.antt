-- What the Takes of a history handed out.
use Rattle.std.specs.Prelude.{◌≡◌, ℕ, ◌<◌, List, ◌++◌, slice_get, Some}
use mathlib.Core.List.{IsPrefix}
use Rattle.groups.specs.declared.request.RequestId.{RequestId}
use Rattle.journal.specs.declared.step.Step.{Step}
use Rattle.order_laws.specs.Layers.{Yields, handed_out, takes, settles}
use Rattle.placement.specs.Layout.{Layout}
use Rattle.skeen_core.specs.declared.packet.Delivered.{Delivered}
use Rattle.world.specs.Steps.{opening, Leads}
use Rattle.world.specs.World.{World, Request, Taken}

-- the Take of this number, counted from 0, of these steps handed out this layer
pub record HandsOut (t : Layout) (steps : List Step) (number : ℕ) (layer : List Delivered) : Type 0 where
  pub layers : List (List Delivered)
  pub world : World
  pub takes : Yields handed_out t opening steps layers world
  pub there : slice_get layers number ≡ Some layer

-- ---- the laws

-- each Take of a history hands out a layer
abbrev pub EachTakeHandsOut : Type 0
EachTakeHandsOut = (t : Layout) (steps : List Step) (w : World) → Leads t opening steps w →
    (number : ℕ) → number < takes steps → (layer : List Delivered) × HandsOut t steps number layer

-- what it handed out stays as steps are added
abbrev pub TakesStay : Type 0
TakesStay = (t : Layout) (steps more : List Step) (w : World) → Leads t opening (steps ++ more) w →
    (number : ℕ) (layer : List Delivered) → HandsOut t steps number layer → HandsOut t (steps ++ more) number layer

-- so in two histories that begin one list the Takes of one number handed out one layer
abbrev pub TakesAgree : Type 0
TakesAgree = (t : Layout) (one other all : List Step) (w : World) → Leads t opening all w → IsPrefix one all → IsPrefix other all →
    (number : ℕ) (layer same : List Delivered) → HandsOut t one number layer → HandsOut t other number same → layer ≡ same

-- a layer that waits to be run was handed out by the Take whose number says how many were settled before
abbrev pub OutIsOfLastTake : Type 0
OutIsOfLastTake = (t : Layout) (steps : List Step) (w : World) → Leads t opening steps w →
    (layer : List Delivered) → w.layer ≡ Taken layer → HandsOut t steps (settles steps) layer

-- what was asked stays as steps are added
abbrev pub AskedStays : Type 0
AskedStays = (t : Layout) (steps more : List Step) (old new : World) → Leads t opening steps old → Leads t opening (steps ++ more) new →
    (i : RequestId) (q : Request) → old.asked i ≡ Some q → new.asked i ≡ Some q
