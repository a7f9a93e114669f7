use Rattle.std.proofs.Common.{◌≡◌, ◌++◌, drop}
use Rattle.delivery.specs.Queues.{queue_of, requests_of}
use Rattle.delivery.specs.Runs.{runs_of}
use Rattle.delivery.proofs.runs.append_runs.Given as goal

-- what is taken with those that are left makes up the rest
abbrev pub invariant-loop-head : goal.invariant-loop-head
invariant-loop-head l = l.layer.items ++ runs_of (queue_of (requests_of l.queues)) (drop l.head-index l.heads)
    ≡ l.initial.layer.items ++ runs_of (queue_of (requests_of l.queues)) l.heads
