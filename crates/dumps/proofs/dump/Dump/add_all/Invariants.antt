use Rattle.std.proofs.Common.{◌≡◌, take}
use Rattle.keyspace.specs.Map.{with_entries}
use Rattle.dumps.proofs.dump.Dump.add_all.Given as goal

-- the entries so far were added
abbrev pub invariant-loop-place : goal.invariant-loop-place
invariant-loop-place g l = l.self ≡ with_entries l.fn.self (take l.place (g.K.Listed.listed l.keys))
