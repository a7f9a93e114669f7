use Rattle.std.proofs.Common.{◌≡◌, ◌++◌, take}
use Rattle.std.specs.List.{flat_map}
use Rattle.picture_shapes.specs.Marks.{receipt_marks}
use Rattle.picture_shapes.proofs.marks.put_receipts.Given as goal

abbrev pub invariant-loop-receipt : goal.invariant-loop-receipt
invariant-loop-receipt l = l.marks.items ≡ l.fn.marks.items ++ flat_map (receipt_marks l.frame) (take l.receipt-index l.receipts)
