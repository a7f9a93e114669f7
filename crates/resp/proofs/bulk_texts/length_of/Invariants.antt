use Rattle.std.proofs.Common.{◌≡◌, drop}
use Rattle.resp.specs.Bulks.{length_on}
use Rattle.resp.proofs.bulk_texts.length_of.Given as goal

-- what is left says the length, behind the digits so far
abbrev pub invariant-loop-place : goal.invariant-loop-place
invariant-loop-place l = length_on l.size (drop l.place l.line) ≡ length_on 0 l.line
