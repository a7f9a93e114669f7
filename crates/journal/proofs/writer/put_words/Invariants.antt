use Rattle.std.proofs.Common.{◌≡◌, ◌-◌, ◌++◌, ◌∷◌, List, ℕ}
use Rattle.std.specs.List.{flat_map}
use Rattle.packing.specs.Codes.{many, word_at}
use Rattle.journal.specs.TraceText.{word_text}
use Rattle.journal.proofs.writer.put_words.Given as goal

-- what was put, and the words that are left, are all words
abbrev pub invariant-loop : goal.invariant-loop
invariant-loop l =
    ((more : List ℕ) × (l.out.items ≡ l.fn.out.items ++ more))
    × (l.out.items ++ flat_map (λ word. 32 ∷ word_text word) (many word_at (l.count - l.counter) l.rest).0
    ≡ l.fn.out.items ++ flat_map (λ word. 32 ∷ word_text word) (many word_at l.count l.bytes).0)
    × ((many word_at (l.count - l.counter) l.rest).1 ≡ (many word_at l.count l.bytes).1)
