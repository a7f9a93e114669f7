use Rattle.std.proofs.Common.{◌≡◌, ◌+◌, length, take}
use Rattle.std.specs.List.{flat_map, AllByRecursion}
use Rattle.packing.specs.Codes.{number_code}
use Rattle.journal.specs.Codes.{skip_code, SkipFits}
use Rattle.journal.proofs.codes.size_of_skips.Given as goal

-- the size of the names so far, each of which fits
abbrev pub invariant-loop-name : goal.invariant-loop-name
invariant-loop-name l =
    (l.size ≡ length (number_code (length l.names)) + length (flat_map skip_code (take l.name-index l.names)))
    × AllByRecursion SkipFits (take l.name-index l.names)
