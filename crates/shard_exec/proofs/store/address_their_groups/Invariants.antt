use Rattle.std.proofs.Common.{take}
use Rattle.shard_exec.specs.Layers.{AddressTheirGroups}
use Rattle.shard_exec.proofs.store.address_their_groups.Given as goal

abbrev pub invariant-loop-job : goal.invariant-loop-job
invariant-loop-job l = AddressTheirGroups l.table (take l.job-index l.jobs)
