use Rattle.std.proofs.Common.{◌≡◌, ◌++◌, take}
use Rattle.picture_shapes.specs.Labels.{text_of}
use Rattle.picture_shapes.proofs.label.put_pieces.Given as goal

abbrev pub invariant-loop-piece : goal.invariant-loop-piece
invariant-loop-piece l = l.out.items ≡ l.fn.out.items ++ text_of (take l.piece-index l.pieces)
