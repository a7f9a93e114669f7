use Rattle.std.proofs.Common.{rules, subst, ◌≡◌}
use Rattle.shared_cluster.proofs.Refusals.{submit_refused}
use Rattle.shared_cluster.specs.Asks.{is_listed}
use Rattle.shared_cluster.proofs.held.Held.admit.Goals as goal

pub returns-then-is_short-clause-refused : goal.returns-then-is_short-clause-refused
returns-then-is_short-clause-refused g c =
    let held = c.args.self.now in
    let listed = c.is_listed-listed.result in
    submit_refused held.shut held.stopped held.cluster.history c.args.seat.now c.args.words listed c.submit_refusal.result c.told_in.result
    (search rules) (search rules) c.lawful.ensures.lawful
    (subst (λ conn. listed ≡ is_listed held.cluster.history conn c.args.words) c.conn.ensures c.is_listed-listed.ensures)
    (rw c.is_short.ensures.0 at c.submit_refusal.ensures) c.told_in.ensures
