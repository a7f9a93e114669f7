use Rattle.std.proofs.Common.{subst}
use Rattle.cluster.proofs.Tapes.{room_back}
use Rattle.cluster.specs.Traces.{IsPushed, LeavesRoom}
use Rattle.cluster.proofs.tape.take_back.Goals as goal

pub returns-in-Some-clause-room : goal.returns-in-Some-clause-room
returns-in-Some-clause-room c = λ before step pushed leaves bytes has.
    room_back c.in-Some.tape c.take_back.new.self step before (subst (λ t. IsPushed before step t) c.in-Some.is pushed)
    (subst (λ t. LeavesRoom before step t) c.in-Some.is leaves) bytes has c.take_back.ensures.room
