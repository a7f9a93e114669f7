use Rattle.std.proofs.Common.{◌≡◌, ◌+◌, ◌++◌, length, take, drop}
use Rattle.std.specs.List.{flat_map}
use Rattle.packing.specs.Codes.{number_code, word_code, words_code}
use Rattle.packing.proofs.words.write_words.Given as goal

-- the words so far were written, and the others take the bytes behind them
abbrev pub invariant-loop-place : goal.invariant-loop-place
invariant-loop-place l = (take l.at l.out ≡ number_code (length l.words) ++ flat_map word_code (take l.place l.words))
    × (l.at + length (flat_map word_code (drop l.place l.words)) ≡ length (words_code l.words))
    × (length l.out ≡ length (words_code l.words))
