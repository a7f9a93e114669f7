use Rattle.std.proofs.Common.{◌≡◌, ◌-◌, ◌++◌}
use Rattle.packing.specs.Codes.{number_at, many}
use Rattle.journal.specs.Codes.{skip_at}
use Rattle.journal.specs.Names.{AreNumbered}
use Rattle.journal.proofs.codes.take_skips.Given as goal

-- the names so far and those that are read of the rest are those of the bytes; members are numbered from 1
abbrev pub invariant-loop : goal.invariant-loop
invariant-loop l =
    (l.names.items ++ (many skip_at (l.count - l.counter) l.rest).0 ≡ (many skip_at l.count (number_at l.fn.bytes).1).0)
    × ((many skip_at (l.count - l.counter) l.rest).1 ≡ (many skip_at l.count (number_at l.fn.bytes).1).1)
    × AreNumbered l.names.items
