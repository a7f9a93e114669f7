use Rattle.std.proofs.Common.{◌+◌, ◌∷◌, [], take, ap, ◌∙◌, arith}
use Rattle.cluster.proofs.Counts.{executed-append, cut_more}
use Rattle.cluster.specs.Counting.{one_if, executed_in}
use Rattle.front.proofs.Turns.{passed_at}
use Rattle.cluster.proofs.counting.executed_in.Goals as goal

pub loop-row-preserved : goal.loop-row-preserved
loop-row-preserved c =
    let rows = c.args.rows.now in
    let row = c.row-item.result in
    let passed = ap executed_in (passed_at rows c.loop-row.row-index row c.loop-row-test.true c.row-item.is)
    ∙ executed-append (take c.loop-row.row-index rows) (row ∷ []) in
    cut_more (executed_in (take c.loop-row.row-index rows)) (one_if row.reply) (executed_in (take (c.loop-row.row-index + 1) rows))
    c.loop-row.count c.one_if.result c.saturating_add-count.result c.loop-row.invariant c.one_if.ensures c.saturating_add-count.ensures
    (omega (arith, passed))
