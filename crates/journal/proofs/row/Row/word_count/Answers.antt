use Rattle.std.proofs.Common.{sym, ◌∙◌, arith}
use Rattle.packing.specs.CodeLaws.{length-words_at}
use Rattle.journal.proofs.row.Row.word_count.Goals as goal

pub returns-clause-count : goal.returns-clause-count
returns-clause-count c = rw (← c.self.view_is) (c.take_number.ensures.number ∙ sym (length-words_at c.self.inside.words.now))

pub returns-clause-some : goal.returns-clause-some
returns-clause-some c =
    omega (arith, c.self.invariant.fit.some, length-words_at c.self.inside.words.now, c.take_number.ensures.number)
