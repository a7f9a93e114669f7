-- When a call of a front makes no step.
use Rattle.std.specs.Prelude.{◌+◌, ◌<◌, List}
use Rattle.front.specs.Fronts.{FrontView, FrontIsAt}
use Rattle.front.specs.declared.fault.FrontFault.{FrontFault}
use Rattle.front.specs.declared.fault.FrontFault.TheVariants.{Busy, NoConn, NoPacket, InFlight, NoLayer, Memory}
use Rattle.journal.specs.declared.step.Step.{Step}
use Rattle.journal.specs.declared.step.Step.TheVariants.{Collect, Close}
use Rattle.journal.specs.declared.trace.TheConstants.{GREATEST_STEPS}
use Rattle.world.specs.Steps.{OwnFault, Refused}
use Rattle.world.specs.Steps as world
use Rattle.world.specs.World.{World}

-- in each world that the front is at the step is refused so
abbrev pub Refuses : FrontView → Step → OwnFault → Type 0
Refuses f step fault = (h : List Step) (w : World) → FrontIsAt f h w → Refused w step fault

-- in none of them does the step have a fault of its own
abbrev pub RefusesNot : FrontView → Step → Type 0
RefusesNot f step = (h : List Step) (w : World) → FrontIsAt f h w → (fault : OwnFault) → ¬ Refused w step fault

-- the step may want memory: one that gives back what is there wants none
abbrev pub WantsMemory : Step → Type 0
WantsMemory (Collect conn) = ⊥
WantsMemory (Close conn) = ⊥
WantsMemory step = Unit {0}

-- why the front refuses the step
abbrev pub IsFault : FrontView → Step → FrontFault → Type 0
IsFault f step Busy = Refuses f step world.Busy
IsFault f step NoConn = Refuses f step world.NoConn
IsFault f step NoPacket = Refuses f step world.NoPacket
IsFault f step InFlight = Refuses f step world.InFlight
IsFault f step NoLayer = Refuses f step world.NoLayer
IsFault f step Memory = WantsMemory step × RefusesNot f step

-- no number has grown too large: a step more may be made
abbrev pub MayStep : FrontView → Type 0
MayStep f = f.steps + f.layers < GREATEST_STEPS
