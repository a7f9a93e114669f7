use Rattle.std.proofs.Common.{◌≡◌, ◌++◌, ℕ, List, length}
use Rattle.dumps.specs.Dump.{words_of}
use Rattle.dumps.proofs.line.put_texts.Given as goal

-- what was put, and the words of the texts that are left, are the words of all texts
abbrev pub invariant-loop-text : goal.invariant-loop-text
invariant-loop-text l =
    ((more : List ℕ) × (l.out.items ≡ l.fn.out.items ++ more))
    × (l.out.items ++ words_of l.texts ≡ l.fn.out.items ++ words_of l.fn.texts)

abbrev pub decreases-loop-text : goal.decreases-loop-text
decreases-loop-text l = length l.texts
