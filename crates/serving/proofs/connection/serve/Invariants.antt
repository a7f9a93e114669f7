use Rattle.std.proofs.Common.{◌≡◌, length}
use Rattle.serving.specs.declared.connection.TheConstants.{PIECE}
use Rattle.serving.proofs.ServeLemmas.{Serving}
use Rattle.serving.proofs.connection.serve.Given as goal

abbrev pub invariant-loop : goal.invariant-loop
invariant-loop g l =
    Serving g.D.Door.asks l.fn.limits (g.R.Read.remaining l.fn.reader) (g.R.Read.remaining l.reader)
    (g.W.Write.contents l.fn.writer) (g.W.Write.contents l.writer) l.fn.door l.door l.decoder.held
    × (length l.piece ≡ PIECE)
