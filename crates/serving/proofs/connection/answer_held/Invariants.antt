use Rattle.std.proofs.Common.{length}
use Rattle.serving.proofs.WriteLemmas.{Writing}
use Rattle.serving.proofs.connection.answer_held.Given as goal

abbrev pub invariant-loop-pause : goal.invariant-loop-pause
invariant-loop-pause g l = Writing g.D.Door.asks l.fn.decoder.held l.decoder.held l.fn.door l.door (g.W.Write.contents l.fn.writer)
    (g.W.Write.contents l.writer)

abbrev pub decreases-loop-pause : goal.decreases-loop-pause
decreases-loop-pause g l = length l.decoder.held.bytes
