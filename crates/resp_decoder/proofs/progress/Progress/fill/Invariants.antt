use Rattle.std.proofs.Common.{◌≤◌, length}
use Rattle.std.specs.List.{AllByRecursion}
use Rattle.resp_decoder.specs.Advancing.{words_of, Moves, TakesLittle}
use Rattle.resp_decoder.proofs.progress.Progress.fill.Given as goal

abbrev pub invariant-loop-self : goal.invariant-loop-self
invariant-loop-self l =
    Moves l.buffer l.fn.self l.self × AllByRecursion (λ w. length w ≤ l.bulk) (words_of l.self)
    × TakesLittle l.self

abbrev pub decreases-loop-self : goal.decreases-loop-self
decreases-loop-self l = l.self.left
