use Rattle.std.proofs.Common.{◌≡◌, drop}
use Rattle.tasks.specs.Starved.{has}
use Rattle.groups.specs.Skips.{parts_of}
use Rattle.replay.proofs.named.is_part_among.Given as goal

-- none of those so far is
abbrev pub invariant-loop-name : goal.invariant-loop-name
invariant-loop-name l = has (parts_of l.names l.id) l.number ≡ has (parts_of (drop l.name-index l.names) l.id) l.number
