use Rattle.std.proofs.Common.{◌≡◌, ◌+◌, length, take}
use Rattle.std.specs.List.{flat_map, AllByRecursion}
use Rattle.packing.specs.Codes.{number_code, word_code, WordFits}
use Rattle.packing.proofs.words.words_size.Given as goal

-- the size of the words so far, each of which fits
abbrev pub invariant-loop-place : goal.invariant-loop-place
invariant-loop-place l = (l.size ≡ length (number_code (length l.words)) + length (flat_map word_code (take l.place l.words)))
    × AllByRecursion WordFits (take l.place l.words)
