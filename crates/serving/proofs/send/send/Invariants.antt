use Rattle.std.proofs.Common.{◌≡◌, ℕ, List, ◌++◌}
use Rattle.std.specs.Io.KnownBytes.{Appends}
use Rattle.serving.proofs.send.send.Given as goal

-- what is written so far and what is left are the bytes
abbrev pub invariant-loop : goal.invariant-loop
invariant-loop g l = (sent : List ℕ) × (l.bytes ≡ sent ++ l.rest)
    × Appends (g.W.Write.contents l.fn.writer) (g.W.Write.contents l.writer) sent
