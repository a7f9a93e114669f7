-- Why the front refuses a step.
use Rattle.front.specs.declared.fault.FrontFault.{FrontFault}
use Rattle.front.specs.declared.fault.FrontFault.TheVariants as front
use Rattle.cluster.specs.declared.fault.StepFault.{StepFault}
use Rattle.cluster.specs.declared.fault.StepFault.TheVariants.{Busy, NoConn, NoPacket, InFlight, NoLayer, Memory}

-- why the front refuses a step, told as a fault of the cluster
abbrev pub of_front : FrontFault → StepFault
of_front front.Busy = Busy
of_front front.NoConn = NoConn
of_front front.NoPacket = NoPacket
of_front front.InFlight = InFlight
of_front front.NoLayer = NoLayer
of_front front.Memory = Memory
