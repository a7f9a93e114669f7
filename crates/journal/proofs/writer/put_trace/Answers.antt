use Rattle.std.proofs.Common.{◌<◌, ◌^◌, length, arith}
use Rattle.std.proofs.lemmas.Result.{IfOk-equal, on_ok_weaker}
use Rattle.std.specs.List.{flat_map}
use Rattle.journal.specs.TraceText.{step_line, ended, first_line, max_line, end_line}
use Rattle.journal.specs.declared.version.TheConstants.{WRITTEN_VERSION}
use Rattle.journal.proofs.Written.{in-turn, trace-written}
use Rattle.journal.proofs.ReadBack.{written-spells}
use Rattle.journal.proofs.writer.put_trace.Goals as goal

pub returns-clause-ok : goal.returns-clause-ok
returns-clause-ok c =
    IfOk-equal c.put_numbered-3.result _ _ _ c.put_numbered-3.ensures.ok
    (rw (
      c.in_ok-put_lines.ensures.ok,
      c.in_ok-put_numbered-2.ensures.ok,
      c.in_ok-put_numbered.ensures.ok,
      c.max.ensures.max,
      c.len.ensures.number,
      c.steps.ensures.steps,
      trace-written c.args.trace.now.max c.args.trace.now.steps,
    )
    (in-turn c.args.out.now.items (ended (first_line WRITTEN_VERSION)) (ended (max_line c.args.trace.now.max))
    (flat_map (λ step. ended (step_line step)) c.args.trace.now.steps) (ended (end_line (length c.args.trace.now.steps)))))

pub returns-clause-spells : goal.returns-clause-spells
returns-clause-spells c =
    let max = c.args.trace.now.max in let steps = c.args.trace.now.steps in
    let few : length steps < 2 ^ 64 = omega (arith, c.len.ensures.number, c.len.ensures.small) in
    let spells = written-spells max steps (omega (arith, c.max.ensures.max, c.max.ensures.least))
    (omega (arith, c.max.ensures.max, c.max.ensures.greatest)) few c.steps.ensures.fit in
    on_ok_weaker c.put_numbered-3.result (λ _. spells) c.put_numbered-3.ensures.ok
