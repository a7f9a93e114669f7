-- The facts of a run, and the worlds that its steps lead through.
use Rattle.std.specs.Prelude.{◌≡◌, ℕ, suc, ◌<◌, nat_lt, not, ◌&&◌, Bool, true, List, [], ◌∷◌, ◌++◌, map, Option, Some, None}
use Rattle.std.specs.List.{filter}
use Rattle.groups.specs.declared.request.RequestId.{RequestId}
use Rattle.journal.specs.declared.step.Step.{Step}
use Rattle.picture_shapes.specs.declared.facts.PacketFacts.{PacketFacts}
use Rattle.placement.specs.Layout.{Layout}
use Rattle.skeen_core.specs.declared.packet.Body.{Body}
use Rattle.skeen_core.specs.declared.packet.Body.TheVariants.{Start, Proposal}
use Rattle.skeen_core.specs.declared.packet.Packet.{Packet}
use Rattle.world.specs.Steps.{Effect, Steps}
use Rattle.world.specs.World.{World}

-- ---- a run

-- a step, and the world after it
pub record Moment : Type 0 where
  pub step : Step
  pub after : World

-- from this world on the steps are made one after another
abbrev pub Walks : Layout → World → List Moment → Type 0
Walks t old [] = Unit {0}
Walks t old (m ∷ ms) = ((effect : Effect) × Steps t old m.step effect m.after) × Walks t m.after ms

abbrev pub steps_of : List Moment → List Step
steps_of ms = map (λ m. m.step) ms

-- the world that they lead to
abbrev pub last_of : World → List Moment → World
last_of w [] = w
last_of w (m ∷ ms) = last_of m.after ms

-- it holds of each world that they lead through, and of how many steps were made before it
abbrev pub InEach : (ℕ → World → Type 0) → ℕ → World → List Moment → Type 0
InEach P n w [] = P n w
InEach P n w (m ∷ ms) = P n w × InEach P (suc n) m.after ms

-- what each step tells, one behind another: how many were made before it, the world before it, it, and the world after it
abbrev pub told_by : {X : Type 0} → (ℕ → World → Step → World → List X) → ℕ → World → List Moment → List X
told_by f n old [] = []
told_by f n old (m ∷ ms) = f n old m.step m.after ++ told_by f (suc n) m.after ms

-- what the steps make of it, one after another
abbrev pub made_by : {X : Type 0} → (ℕ → World → Step → World → X → X) → ℕ → World → List Moment → X → X
made_by f n old [] x = x
made_by f n old (m ∷ ms) x = made_by f (suc n) m.after ms (f n old m.step m.after x)

-- ---- packets

-- where a packet comes from, its floor or the clock that it proposes, where it goes, and its request
pub record Flight : Type 0 where
  pub from : Option ℕ
  pub clock : ℕ
  pub to : ℕ
  pub id : RequestId

abbrev pub source_in : Body → Option ℕ
source_in (Start floor groups) = None
source_in (Proposal from clock) = Some from

abbrev pub clock_in : Body → ℕ
clock_in (Start floor groups) = floor
clock_in (Proposal from clock) = clock

abbrev pub flight_of : Packet → Flight
flight_of p = record { from = source_in p.body; clock = clock_in p.body; to = p.to; id = p.id }

abbrev pub flight_in : PacketFacts → Flight
flight_in p = record { from = p.from; clock = p.clock; to = p.to; id = p.asked.id }

-- it isn't received before this many steps are made
abbrev pub flies_still : Option ℕ → ℕ → Bool
flies_still None n = true
flies_still (Some step) n = not (nat_lt step n)

-- where so many steps were made it was sent, and isn't received
abbrev pub flies_at : ℕ → PacketFacts → Bool
flies_at n p = nat_lt p.sent n && flies_still p.received n

-- those of these packets that fly then are those that are under way in this world, in the order in which they were sent
abbrev pub AreFlying : List PacketFacts → ℕ → World → Type 0
AreFlying ps n w = map flight_in (filter (flies_at n) ps) ≡ map flight_of w.packets

-- it is sent, and received behind that if ever, before so many steps are made
abbrev pub ReceivedBetween : Option ℕ → ℕ → ℕ → Type 0
ReceivedBetween None sent n = Unit {0}
ReceivedBetween (Some step) sent n = (sent < step) × (step < n)

abbrev pub IsPast : ℕ → PacketFacts → Type 0
IsPast n p = (p.sent < n) × ReceivedBetween p.received p.sent n
