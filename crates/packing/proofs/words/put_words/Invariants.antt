use Rattle.std.proofs.Common.{◌≡◌, ◌+◌, ◌≤◌, ◌++◌, length, take, drop, vec_len, vec_capacity}
use Rattle.std.specs.List.{flat_map}
use Rattle.packing.specs.Codes.{number_code, word_code, words_code}
use Rattle.packing.proofs.words.put_words.Given as goal

-- the words so far were put, and there is room for the others
abbrev pub invariant-loop-place : goal.invariant-loop-place
invariant-loop-place l =
    (l.out.items ≡ l.fn.out.items ++ (number_code (length l.words) ++ flat_map word_code (take l.place l.words)))
    × (vec_len l.out + length (flat_map word_code (drop l.place l.words)) ≡ vec_len l.fn.out + length (words_code l.words))
    × (vec_capacity l.fn.out ≤ vec_capacity l.out)
