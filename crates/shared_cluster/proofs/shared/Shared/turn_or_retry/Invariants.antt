use Rattle.shared_cluster.specs.Hands.{IsFound}
use Rattle.shared_cluster.proofs.shared.Shared.turn_or_retry.Given as goal

-- what was found last was done
abbrev pub invariant-loop : goal.invariant-loop
invariant-loop g l = IsFound (g.P.Pick.picks l.fn.pick) l.found
