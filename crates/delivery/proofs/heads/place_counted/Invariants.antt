use Rattle.std.proofs.Common.{◌≡◌, ◌+◌, drop}
use Rattle.delivery.specs.Heads.{place_of}
use Rattle.delivery.specs.declared.heads.Heading.{Heading}
use Rattle.delivery.proofs.heads.place_counted.Given as goal

-- those passed so far stand before
abbrev pub invariant-loop-place : goal.invariant-loop-place
invariant-loop-place l = l.place + place_of (λ (h : Heading). h.id) l.id (drop l.place l.partly) ≡ place_of (λ
    (h : Heading). h.id) l.id l.partly
