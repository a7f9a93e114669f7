use Rattle.std.proofs.Common.{arith, append_assoc}
use Rattle.resp.proofs.Sizes.{one_digit, two_digits}
use Rattle.resp.proofs.write.put_bulk_line.Goals as goal

pub returns-then-number-lt10-clause-items : goal.returns-then-number-lt10-clause-items
returns-then-number-lt10-clause-items c =
    rw (c.put_bytes.ensures.items, one_digit c.args.number c.if-number-lt10.true) (simp append_assoc)

pub returns-then-number-lt100-clause-items : goal.returns-then-number-lt100-clause-items
returns-then-number-lt100-clause-items c =
    rw (c.put_bytes-then-number-lt100.ensures.items, two_digits c.args.number (omega arith) c.if-number-lt100.true) (simp append_assoc)
