use Rattle.std.proofs.Common.{arith}
use Rattle.std.proofs.lemmas.Fmt.{length_signed_le}
use Rattle.resp.proofs.answered.has_few_digits.Goals as goal

pub returns : goal.returns
returns c = length_signed_le 19 c.args.number (omega (arith, c.ranges.number.sfits)) (omega (arith, c.ranges.number.sfits))
