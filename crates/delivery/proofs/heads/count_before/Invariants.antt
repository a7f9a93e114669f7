use Rattle.std.proofs.Common.{◌≡◌, ◌+◌, drop}
use Rattle.delivery.specs.Heads.{count_before}
use Rattle.delivery.proofs.heads.count_before.Given as goal

-- those passed so far stand before
abbrev pub invariant-loop-place : goal.invariant-loop-place
invariant-loop-place l = l.place + count_before l.stamp (drop l.place l.requests) ≡ count_before l.stamp l.requests
