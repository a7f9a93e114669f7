use Rattle.std.proofs.Common.{◌≡◌, ◌++◌, ℕ, List, length}
use Rattle.std.specs.List.{flat_map}
use Rattle.dumps.specs.Dump.{entry_line, lent, dump_text}
use Rattle.dumps.proofs.dump.Dump.put_all.Given as goal

-- what was put, and the lines of the entries that are left, are the lines of all entries
abbrev pub invariant-loop-key : goal.invariant-loop-key
invariant-loop-key l =
    ((more : List ℕ) × (l.out.items ≡ l.fn.out.items ++ more))
    × (l.out.items ++ flat_map entry_line (lent l.entries) ≡ l.fn.out.items ++ dump_text l.fn.self)

abbrev pub decreases-loop-key : goal.decreases-loop-key
decreases-loop-key l = length l.entries
