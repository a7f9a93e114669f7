use Rattle.std.proofs.Common.{take}
use Rattle.resp_decoder.specs.Pieces.{whole}
use Rattle.resp_decoder.proofs.Taking.{Gathered}
use Rattle.resp_decoder.proofs.pieces.decode_all.Given as goal

abbrev pub invariant-loop-piece : goal.invariant-loop-piece
invariant-loop-piece l = Gathered l.fn.limits (whole (take l.piece-index l.pieces)) l.decoder.held l.requests.items
