use Rattle.std.proofs.Common.{◌∙◌, ap, map}
use Rattle.picture.specs.Arrivals.{receipt_in}
use Rattle.picture.specs.Notes.{receipt_noted}
use Rattle.picture.proofs.Putting.{pushed}
use Rattle.picture.proofs.arrivals.Arrivals.come.Goals as goal

pub returns : goal.returns
returns c = record {
  receipts = ap (λ rs. map receipt_in rs.items) c.in_ok-deliver.ensures.receipts
      ∙ pushed receipt_in c.args.self.now.receipts.items c.push.new.self.items c.receipt.result
      (receipt_noted c.args.step c.args.arriving.now c.args.system.now) c.in_ok-push.ensures.items c.receipt.ensures;
  deliveries = c.in_ok-deliver.ensures.deliveries;
}
