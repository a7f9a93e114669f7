use Rattle.std.proofs.Common.{take}
use Rattle.shard_exec.specs.Stamps.{AreFresh}
use Rattle.shard_exec.proofs.store.are_fresh.Given as goal

abbrev pub invariant-loop-job : goal.invariant-loop-job
invariant-loop-job l = AreFresh l.lasts (take l.job-index l.jobs)
