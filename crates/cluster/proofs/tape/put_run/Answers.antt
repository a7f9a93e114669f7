use Rattle.std.proofs.Common.{◌≤◌, arith}
use Rattle.std.proofs.lemmas.Result.{on_ok_weaker}
use Rattle.cluster.proofs.Sizes.{settle_size}
use Rattle.cluster.proofs.tape.put_run.Goals as goal

pub returns-clause-room : goal.returns-clause-room
returns-clause-room c =
    let size = settle_size in
    on_ok_weaker c.push_keeping.result
    (λ (room : c.in-Some.kept ≤ c.push_keeping.new.self.room). omega (arith, room)) c.push_keeping.ensures.room
