use Rattle.std.proofs.Common.{◌∷◌, ◌++◌, ◌∙◌, ap, append_assoc}
use Rattle.packing.specs.Codes.{word_at}
use Rattle.packing.specs.CodeLaws.{many_one}
use Rattle.journal.proofs.Written.{put_more}
use Rattle.journal.specs.TraceText.{word_text}
use Rattle.journal.proofs.writer.put_words.Goals as goal

pub loop-preserved : goal.loop-preserved
loop-preserved c =
    let put = c.in_ok-put_word.ensures.ok ∙ ap (λ w. c.loop.out.items ++ 32 ∷ word_text w) c.take_word.ensures.word in
    let so = c.loop.invariant.0 in (
      (
        so.0 ++ 32 ∷ word_text c.take_word.result.0.now,
        c.in_ok-put_word.ensures.ok ∙ ap (λ b. b ++ 32 ∷ word_text c.take_word.result.0.now) so.1
            ∙ append_assoc c.args.out.now.items so.0 (32 ∷ word_text c.take_word.result.0.now),
      ),
      rw (put, c.take_word.ensures.rest)
          (put_more (λ word. 32 ∷ word_text word) word_at c.args.count c.loop.counter c.loop.rest.now c.loop.out.items _ c.loop-test.true c.loop.invariant.1),
      rw c.take_word.ensures.rest
          (rw (← (many_one word_at c.args.count c.loop.counter c.loop.rest.now c.loop-test.true).1) c.loop.invariant.2),
    )
