use Rattle.std.proofs.Common.{arith}
use Rattle.resp.specs.Ascii.{dollar}
use Rattle.resp.proofs.Sizes.{length-text-BulkText}
use Rattle.resp.proofs.size.bulk_size.Goals as goal

pub returns : goal.returns
returns c = omega (arith, c.length_size.ensures.size dollar, length-text-BulkText c.args.bytes.now)
