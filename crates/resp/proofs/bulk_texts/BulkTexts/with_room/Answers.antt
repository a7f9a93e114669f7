use Rattle.resp.proofs.Bulks.{no_bulks, none_at}
use Rattle.resp.proofs.bulk_texts.BulkTexts.with_room.Goals as goal

pub invariant_of-result : goal.invariant_of-result
invariant_of-result c = no_bulks c.in_ok-text.text.items c.in_ok-text.ensures.items

pub returns-clause-none : goal.returns-clause-none
returns-clause-none c = none_at c.in_ok-text.text.items
