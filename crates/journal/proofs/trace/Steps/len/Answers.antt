use Rattle.std.proofs.Common.{sym}
use Rattle.packing.specs.CodeLaws.{length-many}
use Rattle.journal.specs.Codes.{step_at}
use Rattle.journal.proofs.trace.Steps.len.Goals as goal

pub returns : goal.returns
returns c = rw (← c.self.view_is) (sym (length-many step_at c.self.inside.left c.self.inside.bytes.now))
