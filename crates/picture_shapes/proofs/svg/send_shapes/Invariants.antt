use Rattle.std.proofs.Common.{take}
use Rattle.std.specs.Io.KnownBytes.{Appends, append_known}
use Rattle.std.specs.List.{flat_map}
use Rattle.picture_shapes.specs.Svg.{element}
use Rattle.picture_shapes.proofs.svg.send_shapes.Given as goal

abbrev pub invariant-loop-shape : goal.invariant-loop-shape
invariant-loop-shape g l =
    Appends (append_known (g.W.Write.contents l.fn.writer) l.fn.piece.items)
    (append_known (g.W.Write.contents l.writer) l.piece.items) (flat_map element (take l.shape-index l.shapes))
