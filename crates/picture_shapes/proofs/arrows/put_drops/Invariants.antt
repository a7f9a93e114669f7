use Rattle.std.proofs.Common.{◌≡◌, ◌++◌, take}
use Rattle.std.specs.List.{flat_map}
use Rattle.picture_shapes.specs.Arrows.{drops_of}
use Rattle.picture_shapes.proofs.arrows.put_drops.Given as goal

abbrev pub invariant-loop-request : goal.invariant-loop-request
invariant-loop-request l = l.arrows.items ≡ l.fn.arrows.items ++ flat_map (drops_of l.frame) (take l.request-index l.requests)
