use Rattle.std.proofs.Common.{drop}
use Rattle.layer_tests.specs.Seen.{GoesWithAll}
use Rattle.layer_tests.proofs.queue_runs.may_come.Given as goal

-- it goes with those that were passed
abbrev pub invariant-loop-one : goal.invariant-loop-one
invariant-loop-one l = GoesWithAll (drop l.one-index l.seen) l.group l.request → GoesWithAll l.seen l.group l.request
