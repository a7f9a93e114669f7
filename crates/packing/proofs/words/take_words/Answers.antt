use Rattle.std.proofs.Common.{◌∙◌}
use Rattle.std.proofs.lemmas.List.{append_assoc, map_push}
use Rattle.packing.specs.Codes.{word_at}
use Rattle.packing.specs.CodeLaws.{many_one}
use Rattle.packing.proofs.words.take_words.Goals as goal

pub loop-preserved : goal.loop-preserved
loop-preserved c =
    let one = many_one word_at c.take_number-count.result.0 c.loop.counter c.loop.rest.now c.loop-test.true in
    let word = c.in_ok-from_slice.ensures.items ∙ c.take_word.ensures.word in (
      rw (c.take_word.ensures.rest, c.in_ok-push.ensures.items, map_push, word) (simp append_assoc (rw (← one.0) c.loop.invariant.0)),
      rw c.take_word.ensures.rest (rw (← one.1) c.loop.invariant.1),
    )
