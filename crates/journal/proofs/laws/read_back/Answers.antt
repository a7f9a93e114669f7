use Rattle.std.proofs.Common.{◌≡◌, ◌∙◌, ◌++◌, sym, subst, ap}
use Rattle.journal.specs.TraceText.{trace_text, Spells, IsFaultOf}
use Rattle.journal.proofs.OneReading.{spells-one, no-fault-of-trace}
use Rattle.journal.proofs.laws.read_back.Goals as goal

pub returns-in-Ok-clause-max : goal.returns-in-Ok-clause-max
returns-in-Ok-clause-max c =
    let text = trace_text c.args.trace.now.max c.args.trace.now.steps in
    let written : c.as_slice.result.now ≡ text = c.as_slice.ensures.value ∙ c.in_ok-write_trace.ensures.ok ∙ ap
    (λ b. b ++ text) c.new-text.ensures.items in
    (spells-one text _ _ _ _ (subst (λ t. Spells t c.in-Ok.again.max c.in-Ok.again.steps) written c.in-Ok.ensures)
    c.in_ok-write_trace.ensures.spells).0

pub returns-in-Ok-clause-steps : goal.returns-in-Ok-clause-steps
returns-in-Ok-clause-steps c =
    let text = trace_text c.args.trace.now.max c.args.trace.now.steps in
    let written : c.as_slice.result.now ≡ text = c.as_slice.ensures.value ∙ c.in_ok-write_trace.ensures.ok ∙ ap
    (λ b. b ++ text) c.new-text.ensures.items in
    (spells-one text _ _ _ _ (subst (λ t. Spells t c.in-Ok.again.max c.in-Ok.again.steps) written c.in-Ok.ensures)
    c.in_ok-write_trace.ensures.spells).1

pub unreachable-requires : goal.unreachable-requires
unreachable-requires c =
    let text = trace_text c.args.trace.now.max c.args.trace.now.steps in
    let written : c.as_slice.result.now ≡ text = c.as_slice.ensures.value ∙ c.in_ok-write_trace.ensures.ok ∙ ap
    (λ b. b ++ text) c.new-text.ensures.items in
    let bad = subst (IsFaultOf c.as_slice.result.now) c.in-Err-Bad.field-0-is c.in-Err-Bad.ensures in
    no-fault-of-trace c.as_slice.result.now c.args.trace.now.max _ c.args.trace.now.steps
    (subst (λ t. Spells t c.args.trace.now.max c.args.trace.now.steps) (sym written) c.in_ok-write_trace.ensures.spells) bad
