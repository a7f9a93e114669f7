use Rattle.picture.proofs.Landing.{SendsSo}
use Rattle.system.specs.Reads.{packets_of}
use Rattle.picture.proofs.flights.Flights.send.Given as goal

-- those before this place were sent
abbrev pub invariant-loop-place : goal.invariant-loop-place
invariant-loop-place l = SendsSo l.step l.from l.place (packets_of l.system) l.fn.self l.self
