use Rattle.std.proofs.Common.{◌∷◌, ◌++◌, ◌∙◌, ap, append_assoc}
use Rattle.journal.specs.Codes.{skip_at}
use Rattle.std.proofs.lemmas.Result.{err_from_is_err_and}
use Rattle.packing.specs.CodeLaws.{many_one}
use Rattle.journal.proofs.Written.{put_more}
use Rattle.journal.specs.TraceText.{skip_text}
use Rattle.journal.proofs.writer.put_skips.Goals as goal

pub loop-preserved : goal.loop-preserved
loop-preserved c =
    let put = c.in_ok-put_skip.ensures.ok ∙ ap (λ w. c.loop.out.items ++ 32 ∷ skip_text w) c.take_skip-name.ensures.name in
    let so = c.loop.invariant.0 in (
      (
        so.0 ++ 32 ∷ skip_text c.take_skip-name.result.0,
        c.in_ok-put_skip.ensures.ok ∙ ap (λ b. b ++ 32 ∷ skip_text c.take_skip-name.result.0) so.1
            ∙ append_assoc c.args.out.now.items so.0 (32 ∷ skip_text c.take_skip-name.result.0),
      ),
      rw (put, c.take_skip-name.ensures.rest)
          (put_more (λ name. 32 ∷ skip_text name) skip_at c.args.count c.loop.counter c.loop.rest.now c.loop.out.items _ c.loop-test.true c.loop.invariant.1),
      rw c.take_skip-name.ensures.rest
          (rw (← (many_one skip_at c.args.count c.loop.counter c.loop.rest.now c.loop-test.true).1) c.loop.invariant.2),
    )

pub returns-in_err-put_skip-clause-err : goal.returns-in_err-put_skip-clause-err
returns-in_err-put_skip-clause-err c =
    let so = c.loop.invariant.0 in
    let more = c.in_err-put_skip.ensures.err in
    let p = err_from_is_err_and c.from_residual.result c.from_residual.ensures.1 in
    rw p.1 (so.0 ++ more.0, more.1 ∙ ap (λ b. b ++ more.0) so.1 ∙ append_assoc c.args.out.now.items so.0 more.0)
