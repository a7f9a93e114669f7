use Rattle.std.proofs.Common.{◌<◌, ◌^◌, ◌++◌, length, subst, arith}
use Rattle.journal.specs.TraceText.{head_text, lines_text, ended, end_line, Spells}
use Rattle.shared_cluster.specs.Streams.{StreamView, steps_of}
use Rattle.shared_cluster.proofs.streams.TraceStream.write_end.Goals as goal

pub returns-clause-spells : goal.returns-clause-spells
returns-clause-spells g c =
    let in' = c.self.inside in let is = c.self.invariant in
    let few : length (steps_of in'.seen) < 2 ^ 64 = omega (arith, is.counted, is.few) in
    subst (λ (v : StreamView). Spells (head_text v.max ++ (lines_text v.steps ++ ended (end_line (length v.steps)))) v.max v.steps)
    c.self.view_is (c.pieces_spell.ensures in'.max (steps_of in'.seen) is.least is.greatest few is.fit)
