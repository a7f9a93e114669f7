use Rattle.std.proofs.Common.{◌≡◌, ◌-◌, ◌<◌, take}
use Rattle.shard_exec.specs.Weights.{least_dealt, members_of_layer}
use Rattle.shard_exec.proofs.weighing.are_heavy.Given as goal

-- some are missing yet
abbrev pub invariant-loop-job : goal.invariant-loop-job
invariant-loop-job l =
    (l.missing ≡ least_dealt - members_of_layer l.table l.row (take l.job-index l.jobs)) × (0 < l.missing)
