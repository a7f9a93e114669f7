use Rattle.std.proofs.Common.{◌∙◌, sym, ap}
use Rattle.worded.specs.Reading.{batch_reading}
use Rattle.worded.proofs.BatchWords.{plain-reading}
use Rattle.worded.proofs.worded.Worded.read_into.Goals as goal

pub invariant_of-result : goal.invariant_of-result
invariant_of-result c = record {
  says = ap batch_reading c.in-Ok.ensures.copied ∙ plain-reading c.args.words c.in-Ok-read.command (sym c.in-Ok-read.ensures.reading);
}
