use Rattle.std.proofs.Common.{inl}
use Rattle.shared_cluster.proofs.Collecting.{has_submitted, answers_of, begun_fault}
use Rattle.shared_cluster.proofs.Hands.{held_at_once}
use Rattle.shared_cluster.proofs.shared.Shared.submit_or_begin.Goals as goal

pub returns-in-Ok-Some-clause-begun : goal.returns-in-Ok-Some-clause-begun
returns-in-Ok-Some-clause-begun g c =
    let passes = rw c.in-Ok-Some.field-0-is at c.in-Ok-Some.ensures.made in (
      has_submitted c.args.held.now.cluster.history passes.begun c.args.seat.now c.pass.new.seat c.args.words passes.submits,
      held_at_once passes.begun c.pass.new.self.cluster.history c.in-Ok-Some.taken passes.goes_on,
    )

pub returns-in-Ok-clause-begun : goal.returns-in-Ok-clause-begun
returns-in-Ok-clause-begun g c =
    let seat = c.pass.new.seat in
    let passes = c.in-Ok-None.ensures.made in
    let has = has_submitted c.args.held.now.cluster.history passes.begun c.args.seat.now seat c.args.words passes.submits in
    answers_of g.T.Tabled.table c.args.seat.now seat c.collect_or_begin.new.seat c.args.words c.in-Ok.begun has
    c.in-Ok.ensures.begun

pub returns-in-Err-clause-refused : goal.returns-in-Err-clause-refused
returns-in-Err-clause-refused g c =
    let held = c.args.held.now in
    inl ((held.shut, held.stopped, held.cluster.history, c.in-Err.ensures.refused), c.in-Err.ensures.unchanged)

pub returns-in-Err-collect_or_begin-clause-refused : goal.returns-in-Err-collect_or_begin-clause-refused
returns-in-Err-collect_or_begin-clause-refused g c =
    let seat = c.pass.new.seat in
    let passes = c.in-Ok-None.ensures.made in
    let has = has_submitted c.args.held.now.cluster.history passes.begun c.args.seat.now seat c.args.words passes.submits in
    begun_fault c.args.seat.now seat c.collect_or_begin.new.seat c.args.words c.in-Err-collect_or_begin.fault has
    c.in-Err-collect_or_begin.ensures.unchanged c.in-Err-collect_or_begin.ensures.refused
