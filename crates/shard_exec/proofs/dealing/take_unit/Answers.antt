use Rattle.std.proofs.Common.{arith}
use Rattle.shard_exec.proofs.DealtLaws.{took_length}
use Rattle.shard_exec.proofs.dealing.take_unit.Goals as goal

pub new-requires-clause-room : goal.new-requires-clause-room
new-requires-clause-room c =
    let n = took_length _ _ _ c.take_jobs-jobs.ensures.took in let r = c.requires.room.rans in omega (arith, n, r)
