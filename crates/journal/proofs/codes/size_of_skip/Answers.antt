use Rattle.std.proofs.Common.{arith, ap, length}
use Rattle.journal.proofs.CodeLaws.{length-part}
use Rattle.journal.proofs.codes.size_of_skip.Goals as goal

pub returns-clause-size : goal.returns-clause-size
returns-clause-size c =
    let parts = c.parts_of-number.result in omega (arith, ap length c.parts_of-number.ensures, length-part parts.0 parts.1)
