use Rattle.std.proofs.Common.{◌≡◌, ◌∙◌, [], ◌==◌, length, false, ap, sym, subst}
use Rattle.std.proofs.lemmas.List.{nil_from_length}
use Rattle.std.proofs.lemmas.Bool.{eqb-true}
use Rattle.journal.specs.TraceText.{end_line, step_in}
use Rattle.journal.specs.TraceReading.{IsLine}
use Rattle.journal.proofs.ReadLaws.{read-open, read-bad, read-behind, read-done, read-more, none-added, some-added}
use Rattle.journal.proofs.reader.read_steps.Goals as goal

pub returns-in_default : goal.returns-in_default
returns-in_default c = λ whole r.
    rw c.len-count.ensures.number (read-open whole _ _ _ _ (c.loop-line.invariant whole r) c.in_default.ensures)

pub returns-then-is_empty : goal.returns-then-is_empty
returns-then-is_empty c = λ whole r.
    let line = c.in-Some.line.now in let behind = c.in-Some.behind.now in let steps = c.loop-line.trace.steps in
    let last : line ≡ end_line (length steps) = c.is_end.ensures.0 c.if-is_end.true ∙ ap end_line c.len-count.ensures.number in
    let none : behind ≡ [] = nil_from_length behind (eqb-true (length behind) 0 (sym c.is_empty.ensures ∙ c.if-is_empty.true)) in
    read-done whole c.loop-line.rest.now _ _ steps (c.loop-line.invariant whole r)
    (subst (λ b. IsLine c.loop-line.rest.now (end_line (length steps)) b) none
    (subst (λ l. IsLine c.loop-line.rest.now l behind) last c.in-Some.ensures))

pub returns-then-is_end : goal.returns-then-is_end
returns-then-is_end c = λ whole r.
    let line = c.in-Some.line.now in let behind = c.in-Some.behind.now in let steps = c.loop-line.trace.steps in
    let last : line ≡ end_line (length steps) = c.is_end.ensures.0 c.if-is_end.true ∙ ap end_line c.len-count.ensures.number in
    let some : (length behind == 0) ≡ false = sym c.is_empty.ensures ∙ c.if-is_empty.false in
    rw c.len-count.ensures.number
    (read-behind whole c.loop-line.rest.now behind _ _ steps (c.loop-line.invariant whole r)
    (subst (λ l. IsLine c.loop-line.rest.now l behind) last c.in-Some.ensures)
    (λ e. let gone = ap (λ b. length b == 0) e in cc))

pub returns-then-not-branch : goal.returns-then-not-branch
returns-then-not-branch c = λ whole r.
    let line = c.in-Some.line.now in let steps = c.loop-line.trace.steps in
    rw c.len-count.ensures.number
    (read-bad whole c.loop-line.rest.now line _ _ _ steps (c.loop-line.invariant whole r) c.in-Some.ensures
    (none-added _ (step_in c.args.version line) c.in_ok-add_step.field-0 _ _ _ _ c.in_ok-add_step.ensures c.if-not-branch.true)
    (λ e. let on = c.is_end.ensures.1 (e ∙ ap end_line (sym c.len-count.ensures.number)) in let off = c.if-is_end.false in cc))

pub loop-line-preserved : goal.loop-line-preserved
loop-line-preserved c = λ whole r.
    let line = c.in-Some.line.now in let steps = c.loop-line.trace.steps in
    let added = some-added _ (step_in c.args.version line) c.in_ok-add_step.field-0 _ _ _ _ c.in_ok-add_step.ensures
    c.if-not-branch.false in
    rw (added.2, added.3) (read-more whole c.loop-line.rest.now line _ _ _ steps added.0
    (c.loop-line.invariant whole r) c.in-Some.ensures added.1)
