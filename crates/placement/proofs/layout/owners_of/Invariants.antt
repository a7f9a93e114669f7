use Rattle.std.proofs.Common.{take}
use Rattle.placement.specs.Owners.{Owns}
use Rattle.placement.proofs.layout.owners_of.Given as goal

abbrev pub invariant-loop-range : goal.invariant-loop-range
invariant-loop-range l = Owns (take l.range-index l.ranges) l.owners
