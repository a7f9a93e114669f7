use Rattle.std.proofs.Common.{sym}
use Rattle.resp.proofs.Bulks.{length-bulks_at}
use Rattle.resp.proofs.bulk_texts.BulkTexts.len.Goals as goal

pub returns : goal.returns
returns c = rw (← c.self.view_is) (sym (length-bulks_at c.self.inside.count c.self.inside.text.items))
