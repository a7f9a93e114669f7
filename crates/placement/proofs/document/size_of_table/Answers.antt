use Rattle.std.proofs.Common.{◌∙◌, sym}
use Rattle.placement.proofs.DocumentLemmas.{size-members_view}
use Rattle.placement.proofs.document.size_of_table.Goals as goal

pub returns : goal.returns
returns c = c.len.ensures.len ∙ sym (size-members_view c.args.table.now.entries)
