use Rattle.std.proofs.Common.{length, ap, sym, ◌∙◌}
use Rattle.journal.proofs.LongRows.{length-all_whole}
use Rattle.journal.proofs.rows.Rows.len.Goals as goal

pub returns : goal.returns
returns c =
    c.len.ensures ∙ sym (length-all_whole c.self.inside.long.items 0 c.self.inside.packed.rows) ∙ ap (λ v. length v.rows) c.self.view_is
