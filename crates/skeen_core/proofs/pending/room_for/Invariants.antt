use Rattle.std.proofs.Common.{◌≡◌, ◌+◌, ◌<◌, ◌^◌, length}
use Rattle.skeen_core.specs.Pending.{front, room_for}
use Rattle.skeen_core.proofs.pending.room_for.Given as goal

-- those counted so far, and the settled ones right behind them, are all; with all that follow they fit
abbrev pub invariant-loop-request : goal.invariant-loop-request
invariant-loop-request l =
    (l.room + length (front l.request-iterator) ≡ room_for l.fn.place l.fn.pending.entries) × (l.room + length l.request-iterator < 2 ^ 63)
