use Rattle.std.proofs.Common.{arith}
use Rattle.journal.proofs.Kept.{count-few}
use Rattle.journal.proofs.trace.Trace.len.Goals as goal

pub returns-clause-small : goal.returns-clause-small
returns-clause-small c =
    omega (arith, count-few _ _ _ _ c.self.invariant, c.self.inside.bytes.ok.0, c.self.inside.bytes.small)
