use Rattle.std.proofs.Common.{◌≡◌, ◌++◌, take}
use Rattle.std.specs.List.{flat_map}
use Rattle.picture_shapes.specs.Arrows.{lines_of}
use Rattle.picture_shapes.proofs.arrows.put_lines.Given as goal

abbrev pub invariant-loop-packet : goal.invariant-loop-packet
invariant-loop-packet l = l.arrows.items ≡ l.fn.arrows.items ++ flat_map (lines_of l.frame) (take l.packet-index l.packets)
