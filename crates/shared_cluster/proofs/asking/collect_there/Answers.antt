use Rattle.std.proofs.Common.{inl}
use Rattle.std.proofs.lemmas.Option.{IfSome_then}
use Rattle.std.proofs.lemmas.Result.{IfOk-weaker, IfErr-weaker}
use Rattle.resp.specs.Content.{content}
use Rattle.shared_cluster.proofs.Collecting.{has_collected}
use Rattle.shared_cluster.proofs.Hands.{nothing_there, found_uncollected}
use Rattle.shared_cluster.proofs.asking.collect_there.Goals as goal

pub returns-clause-replied : goal.returns-clause-replied
returns-clause-replied g c =
    IfOk-weaker c.collect.result _ _ (λ reply answered. IfSome_then reply answered (λ x.
    has_collected g.T.Tabled.table c.args.held.now.cluster.history c.collect.new.self.cluster.history c.args.seat.now c.collect.new.seat
    (content x.reply))) c.collect.ensures.answered

pub returns-clause-refused : goal.returns-clause-refused
returns-clause-refused g c =
    let held = c.args.held.now in
    IfErr-weaker c.collect.result _ _ (λ fault why. inl (held.stopped, held.cluster.history, why)) c.collect.ensures.refused

pub returns-clause-none : goal.returns-clause-none
returns-clause-none g c =
    found_uncollected c.args.held.now.cluster c.collect.new.self.cluster c.args.seat.now c.collect.result
    c.collect.ensures.none c.collect.ensures.still

pub returns-then-has_no_outcome-clause-none : goal.returns-then-has_no_outcome-clause-none
returns-then-has_no_outcome-clause-none g c =
    nothing_there c.args.held.now.cluster c.args.seat.now c.conn.result c.conn.ensures
    (c.has_no_outcome.ensures c.if-has_no_outcome.true)
