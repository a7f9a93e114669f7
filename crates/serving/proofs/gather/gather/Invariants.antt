use Rattle.std.proofs.Common.{length}
use Rattle.serving.proofs.GatherLemmas.{Gathering}
use Rattle.serving.proofs.gather.gather.Given as goal

abbrev pub invariant-loop-decoder : goal.invariant-loop-decoder
invariant-loop-decoder g l = Gathering g.D.Door.asks l.fn.decoder.held l.decoder.held l.fn.door l.door l.replies.items

abbrev pub decreases-loop-decoder : goal.decreases-loop-decoder
decreases-loop-decoder g l = length l.decoder.held.bytes
