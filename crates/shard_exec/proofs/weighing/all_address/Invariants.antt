use Rattle.std.proofs.Common.{◌≡◌, take}
use Rattle.std.specs.List.{AllByRecursion}
use Rattle.shard_exec.proofs.weighing.all_address.Given as goal

abbrev pub invariant-loop-job : goal.invariant-loop-job
invariant-loop-job l = AllByRecursion (λ j. j.groups ≡ l.groups) (take l.job-index l.jobs)
