use Rattle.std.proofs.Common.{◌≡◌, ◌+◌, ◌-◌, ◌^◌, ◌<◌, drop, length, min}
use Rattle.delivery.specs.Queues.{queue_of, requests_of}
use Rattle.delivery.specs.Runs.{runs_of}
use Rattle.delivery.proofs.runs.count_runs.Given as goal

-- what is taken with those that are left makes up the rest
abbrev pub invariant-loop-head : goal.invariant-loop-head
invariant-loop-head l = record {
  small : l.count < 2 ^ 64;
  rest : min (l.count + length (runs_of (queue_of (requests_of l.queues)) (drop l.head-index l.heads))) (2 ^ 64 - 1)
      ≡ min (length (runs_of (queue_of (requests_of l.queues)) l.heads)) (2 ^ 64 - 1);
}
