use Rattle.std.proofs.Common.{length}
use Rattle.resp_decoder.proofs.Taking.{Taking}
use Rattle.resp_decoder.proofs.pieces.take_all.Given as goal

abbrev pub invariant-loop-request : goal.invariant-loop-request
invariant-loop-request l = Taking l.fn.decoder.held l.fn.requests.items l.decoder.held l.requests.items

abbrev pub decreases-loop-request : goal.decreases-loop-request
decreases-loop-request l = length l.decoder.held.bytes
