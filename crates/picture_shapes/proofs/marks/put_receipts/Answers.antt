use Rattle.picture_shapes.specs.Marks.{receipt_marks}
use Rattle.picture_shapes.proofs.Each.{put_more}
use Rattle.picture_shapes.proofs.marks.put_receipts.Goals as goal

pub loop-receipt-preserved : goal.loop-receipt-preserved
loop-receipt-preserved c =
    put_more (receipt_marks c.args.frame.now) c.args.marks.now.items c.loop-receipt.marks.items c.put_receipt.new.marks.items
    c.args.receipts.now c.loop-receipt.receipt-index c.receipt-item.result c.loop-receipt.invariant c.in_ok-put_receipt.ensures
    c.loop-receipt-test.true c.receipt-item.is
