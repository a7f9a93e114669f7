-- How what the front answers, and what it refuses, is told.
use Rattle.std.specs.Prelude.{Option, Some, None}
use Rattle.front.specs.declared.fault.FrontFault.{FrontFault}
use Rattle.front.specs.declared.fault.FrontFault.TheVariants as front
use Rattle.front.specs.declared.effect.Effect as fronts
use Rattle.front.specs.declared.effect.Effect.TheVariants as made
use Rattle.system.specs.declared.effect.Effect.{Effect}
use Rattle.system.specs.declared.effect.Effect.TheVariants.{Opened, Submitted, Collected, Made}
use Rattle.system.specs.declared.fault.StepFault.{StepFault}
use Rattle.system.specs.declared.fault.StepFault.TheVariants.{Busy, NoConn, NoPacket, InFlight, NoLayer, Exhausted, Memory, Failed}
use Rattle.world.specs.Steps.{OwnFault}
use Rattle.world.specs.Steps as world

abbrev pub effect_of : fronts.Effect → Effect
effect_of (made.Opened conn) = Opened conn
effect_of (made.Submitted id) = Submitted id
effect_of (made.Collected outcome) = Collected outcome
effect_of made.Made = Made

abbrev pub of_front : FrontFault → StepFault
of_front front.Busy = Busy
of_front front.NoConn = NoConn
of_front front.NoPacket = NoPacket
of_front front.InFlight = InFlight
of_front front.NoLayer = NoLayer
of_front front.Memory = Memory

-- a step's own fault
abbrev pub own_fault : StepFault → Option OwnFault
own_fault Busy = Some world.Busy
own_fault NoConn = Some world.NoConn
own_fault NoPacket = Some world.NoPacket
own_fault InFlight = Some world.InFlight
own_fault NoLayer = Some world.NoLayer
own_fault Exhausted = None
own_fault Memory = None
own_fault Failed = None
