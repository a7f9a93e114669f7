use Rattle.std.proofs.Common.{◌≡◌, ◌++◌, take}
use Rattle.std.specs.List.{flat_map}
use Rattle.picture_shapes.specs.Marks.{delivery_marks}
use Rattle.picture_shapes.proofs.marks.put_deliveries.Given as goal

abbrev pub invariant-loop-delivery : goal.invariant-loop-delivery
invariant-loop-delivery l = l.marks.items ≡ l.fn.marks.items ++ flat_map (delivery_marks l.frame) (take l.delivery-index l.deliveries)
