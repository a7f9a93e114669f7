use Rattle.std.proofs.Common.{◌≡◌, ◌-◌, drop, length}
use Rattle.packing.specs.Codes.{word_at, many}
use Rattle.packing.proofs.packed.PackedWords.word.Given as goal

-- what is read of the rest are the words from here on
abbrev pub invariant-loop : goal.invariant-loop
invariant-loop l = (many word_at (length l.self - l.counter) l.rest).0 ≡ drop l.counter l.self
