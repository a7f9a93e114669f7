use Rattle.std.proofs.Common.{◌≡◌, ◌+◌, ◌≤◌, ◌++◌, length, take, drop, vec_len, vec_capacity}
use Rattle.std.specs.List.{flat_map}
use Rattle.packing.specs.Codes.{number_code}
use Rattle.journal.specs.Codes.{skip_code, skips_code}
use Rattle.journal.proofs.codes.put_skips.Given as goal

-- the names so far were put, and there is room for the others
abbrev pub invariant-loop-name : goal.invariant-loop-name
invariant-loop-name l =
    (l.out.items ≡ l.fn.out.items ++ (number_code (length l.names) ++ flat_map skip_code (take l.name-index l.names)))
    × (vec_len l.out + length (flat_map skip_code (drop l.name-index l.names)) ≡ vec_len l.fn.out + length (skips_code l.names))
    × (vec_capacity l.fn.out ≤ vec_capacity l.out)
