use Rattle.std.proofs.Common.{◌-◌, length}
use Rattle.resp_decoder.specs.Advancing.{TakesLittle}
use Rattle.resp_decoder.proofs.Steps.{AtHead}
use Rattle.resp_decoder.proofs.progress.Progress.begin.Given as goal

abbrev pub invariant-loop-count : goal.invariant-loop-count
invariant-loop-count l = AtHead l.limits l.buffer l.fn.self l.self × TakesLittle l.self

abbrev pub decreases-loop-count : goal.decreases-loop-count
decreases-loop-count l = length l.buffer - l.self.start
