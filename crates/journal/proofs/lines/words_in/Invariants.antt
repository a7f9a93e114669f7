use Rattle.std.proofs.Common.{◌≡◌, ◌++◌, length, option_map}
use Rattle.texts.specs.Texts.{texts_of}
use Rattle.journal.specs.TraceText.{all_in, word_in}
use Rattle.journal.proofs.lines.words_in.Given as goal

-- the words so far, and those of the parts that are left, are those of all parts
abbrev pub invariant-loop-arg : goal.invariant-loop-arg
invariant-loop-arg l =
    all_in word_in l.fn.args ≡ option_map (λ ws. texts_of l.words.items ++ ws) (all_in word_in l.args)

abbrev pub decreases-loop-arg : goal.decreases-loop-arg
decreases-loop-arg l = length l.args
