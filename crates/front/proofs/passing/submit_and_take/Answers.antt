use Rattle.std.proofs.Common.{◌≤◌, length, ap, arith}
use Rattle.std.proofs.lemmas.Result.{IfOk-weaker}
use Rattle.front.proofs.Messages.{groups_few}
use Rattle.router.specs.Router.{session_at}
use Rattle.router.specs.Submitting.{SubmitsAndTakes}
use Rattle.router.specs.declared.submission.Submission.{Submission}
use Rattle.sessions.specs.Session.{asks}
use Rattle.front.proofs.passing.submit_and_take.Goals as goal

pub returns-clause-room : goal.returns-clause-room
returns-clause-room c =
    let t = c.args.table.now in
    let old = c.args.router.now in
    IfOk-weaker c.submit_and_take.result
    (λ (sent : Submission).
    SubmitsAndTakes t c.args.conn.0 c.args.words old sent c.submit_and_take.new.taken.items c.submit_and_take.new.self)
    (λ (sent : Submission). length sent.groups ≤ c.reserve.new.self.room)
    (λ sent it.
    let few = groups_few t (asks (session_at old c.args.conn.0) c.args.words).1 in
    let groups = ap length it.submits.groups in
    let room = c.in-Ok.ensures.room in
    let from = c.from-groups.ensures in
    let shards = c.shards.ensures.value in
    omega arith)
    c.submit_and_take.ensures.submitted
