use Rattle.std.proofs.Common.{◌≡◌, ◌-◌, ◌++◌}
use Rattle.texts.specs.Texts.{texts_of}
use Rattle.packing.specs.Codes.{number_at, word_at, many}
use Rattle.packing.proofs.words.take_words.Given as goal

-- the words so far and those that are read of the rest are those of the bytes
abbrev pub invariant-loop : goal.invariant-loop
invariant-loop l =
    (texts_of l.words.items ++ (many word_at (l.count - l.counter) l.rest).0 ≡ (many word_at l.count (number_at l.fn.bytes).1).0)
    × ((many word_at (l.count - l.counter) l.rest).1 ≡ (many word_at l.count (number_at l.fn.bytes).1).1)
