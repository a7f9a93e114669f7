use Rattle.std.proofs.Common.{◌≡◌, ◌+◌, drop}
use Rattle.skeen_core.specs.declared.packet.Delivered.{Delivered}
use Rattle.delivery.specs.Heads.{place_of}
use Rattle.delivery.proofs.heads.place_among.Given as goal

-- those passed so far stand before
abbrev pub invariant-loop-place : goal.invariant-loop-place
invariant-loop-place l = l.place + place_of (λ (d : Delivered). d.id) l.id (drop l.place l.requests) ≡ place_of (λ
    (d : Delivered). d.id) l.id l.requests
