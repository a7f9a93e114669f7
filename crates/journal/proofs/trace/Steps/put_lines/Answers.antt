use Rattle.std.proofs.Common.{◌++◌, ◌∙◌, ap, append_assoc}
use Rattle.std.proofs.lemmas.Result.{err_from_is_err_and}
use Rattle.journal.specs.Codes.{step_at}
use Rattle.journal.specs.TraceText.{ended, step_line}
use Rattle.journal.proofs.Written.{put_more}
use Rattle.journal.proofs.trace.Steps.put_lines.Goals as goal

pub returns-in_err-rest-clause-err : goal.returns-in_err-rest-clause-err
returns-in_err-rest-clause-err c =
    let so = c.loop.invariant.0 in
    let more = c.in_err-rest.ensures.err in
    let p = err_from_is_err_and c.from_residual.result c.from_residual.ensures.1 in
    rw p.1 (so.0 ++ more.0, more.1 ∙ ap (λ b. b ++ more.0) so.1 ∙ append_assoc c.args.out.now.items so.0 more.0)

pub loop-preserved : goal.loop-preserved
loop-preserved c =
    let so = c.loop.invariant.0 in
    let line = ended (step_line (step_at c.loop.rest.now).0) in (
      (so.0 ++ line, c.in_ok-rest.ensures.ok ∙ ap (λ b. b ++ line) so.1 ∙ append_assoc c.args.out.now.items so.0 line),
      rw (c.in_ok-rest.ensures.ok, c.in_ok-rest.ensures.rest)
          (put_more (λ step. ended (step_line step)) step_at c.self.inside.left c.loop.counter c.loop.rest.now c.loop.out.items _
          c.loop-test.true c.loop.invariant.1),
    )
