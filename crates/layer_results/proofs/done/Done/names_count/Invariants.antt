use Rattle.std.proofs.Common.{◌≡◌, length, take}
use Rattle.layer_results.specs.Results.{names_of}
use Rattle.layer_results.proofs.done.Done.names_count.Given as goal

-- how many names the rows so far tell
abbrev pub invariant-loop-row : goal.invariant-loop-row
invariant-loop-row l = l.count ≡ length (names_of (take l.row-index l.self))
