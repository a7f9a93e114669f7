use Rattle.replay.proofs.Beginnings.{one_read}
use Rattle.replay.proofs.beginning.lines_of.Goals as goal

pub loop-line-preserved : goal.loop-line-preserved
loop-line-preserved c =
    one_read c.args.text.now c.loop-line.rest.now c.in-Some.line.now c.in-Some.behind.now c.loop-line.lines c.loop-line.has_end _
    c.loop-line.invariant c.in-Some.ensures c.starts_with-has_end.ensures.value
