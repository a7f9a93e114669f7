use Rattle.std.proofs.Common.{◌≡◌, take}
use Rattle.cluster.specs.Counting.{as_word, executed_in}
use Rattle.cluster.proofs.counting.executed_in.Given as goal

-- those of the rows in front are counted
abbrev pub invariant-loop-row : goal.invariant-loop-row
invariant-loop-row l = l.count ≡ as_word (executed_in (take l.row-index l.fn.rows))
