use Rattle.std.proofs.Common.{◌≡◌, ◌≤◌, drop}
use Rattle.resp_decoder.specs.Parsing.{number_on}
use Rattle.resp_decoder.proofs.parsing.number_from.Given as goal

abbrev pub invariant-loop-i : goal.invariant-loop-i
invariant-loop-i l =
    (l.n ≤ l.max) × (number_on l.max l.n (drop l.i l.bytes) ≡ number_on l.max l.first l.bytes)
