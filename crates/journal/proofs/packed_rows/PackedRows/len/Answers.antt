use Rattle.std.proofs.Common.{ap, arith}
use Rattle.journal.proofs.Kept.{length-ends}
use Rattle.journal.proofs.packed_rows.PackedRows.len.Goals as goal

pub returns : goal.returns
returns c =
    rw (← ap (λ v. v.rows) c.self.view_is) (omega (arith, c.len.ensures, c.self.inside.ends.ok.0, length-ends _ _ _ c.self.invariant))
