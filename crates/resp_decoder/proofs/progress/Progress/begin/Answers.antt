use Rattle.std.proofs.Common.{◌-◌, length, Err, refl, sym, ap, ◌∙◌, arith}
use Rattle.std.proofs.lemmas.Result.{err_from_is_err_and}
use Rattle.std.proofs.lemmas.List.{take_rest}
use Rattle.resp_decoder.specs.declared.progress.Progress.{Progress}
use Rattle.resp_decoder.proofs.Steps.{passes_item, passes_head, still_none}
use Rattle.resp_decoder.proofs.Wants.{stops_at_head, wants_at_head}
use Rattle.resp_decoder.proofs.progress.Progress.begin.Goals as goal

pub overflow_sub-self : goal.overflow_sub-self
overflow_sub-self c =
    let new : Progress = record {
      start = length c.args.buffer.now - length c.in_ok-count.rest.now;
      name = c.loop-count.self.name;
      words = c.in_ok-self.field-0;
      left = c.unwrap_or-count.result;
    } in
    (passes_head c.args.limits c.args.buffer.now c.args.self.now c.loop-count.self new c.in_ok-count.count c.unwrap_or-count.result
    c.in_ok-count.rest.now c.loop-count.invariant.0
    (rw take_rest at c.in_ok-count.ensures) c.unwrap_or-count.ensures c.if-count-gt0.true
    (still_none c.loop-count.self c.in_ok-self.field-0.items (c.loop-count.invariant.0.sound.idle c.loop-count.invariant.0.idle)) refl
    refl).rest_fits

pub returns-then-count-gt0-clause-begins : goal.returns-then-count-gt0-clause-begins
returns-then-count-gt0-clause-begins c =
    let new : Progress = record {
      start = length c.args.buffer.now - length c.in_ok-count.rest.now;
      name = c.loop-count.self.name;
      words = c.in_ok-self.field-0;
      left = c.unwrap_or-count.result;
    } in
    (passes_head c.args.limits c.args.buffer.now c.args.self.now c.loop-count.self new c.in_ok-count.count c.unwrap_or-count.result
    c.in_ok-count.rest.now c.loop-count.invariant.0
    (rw take_rest at c.in_ok-count.ensures) c.unwrap_or-count.ensures c.if-count-gt0.true
    (still_none c.loop-count.self c.in_ok-self.field-0.items (c.loop-count.invariant.0.sound.idle c.loop-count.invariant.0.idle)) refl
    refl).begun

pub overflow_sub-self-in-loop-count : goal.overflow_sub-self-in-loop-count
overflow_sub-self-in-loop-count c =
    let new : Progress = record {
      start = length c.args.buffer.now - length c.in_ok-count.rest.now;
      name = c.loop-count.self.name;
      words = c.loop-count.self.words;
      left = c.loop-count.self.left;
    } in
    (passes_item c.args.limits c.args.buffer.now c.args.self.now c.loop-count.self new c.in_ok-count.count c.in_ok-count.rest.now
    c.loop-count.invariant.0
    (rw take_rest at c.in_ok-count.ensures) (omega (arith, c.unwrap_or-count.ensures, c.if-count-gt0.false)) refl refl refl).rest_fits

pub loop-count-smaller : goal.loop-count-smaller
loop-count-smaller c =
    let new : Progress = record {
      start = length c.args.buffer.now - length c.in_ok-count.rest.now;
      name = c.loop-count.self.name;
      words = c.loop-count.self.words;
      left = c.loop-count.self.left;
    } in
    (passes_item c.args.limits c.args.buffer.now c.args.self.now c.loop-count.self new c.in_ok-count.count c.in_ok-count.rest.now
    c.loop-count.invariant.0
    (rw take_rest at c.in_ok-count.ensures) (omega (arith, c.unwrap_or-count.ensures, c.if-count-gt0.false)) refl refl refl).closer

pub loop-count-preserved : goal.loop-count-preserved
loop-count-preserved c =
    let new : Progress = record {
      start = length c.args.buffer.now - length c.in_ok-count.rest.now;
      name = c.loop-count.self.name;
      words = c.loop-count.self.words;
      left = c.loop-count.self.left;
    } in (
      (passes_item c.args.limits c.args.buffer.now c.args.self.now c.loop-count.self new c.in_ok-count.count c.in_ok-count.rest.now
          c.loop-count.invariant.0
          (rw take_rest at c.in_ok-count.ensures) (omega (arith, c.unwrap_or-count.ensures, c.if-count-gt0.false)) refl refl refl).kept,
      c.loop-count.invariant.1,
    )

pub returns-in_err-count-clause-begins : goal.returns-in_err-count-clause-begins
returns-in_err-count-clause-begins c =
    let p = err_from_is_err_and c.from_residual.result c.from_residual.ensures.1 in
    stops_at_head c.args.limits c.args.buffer.now c.args.self.now c.loop-count.self c.from_residual.result p.0 c.loop-count.invariant.0
    (rw take_rest at c.in_err-count.ensures ∙ ap (λ s. Err s) (sym p.2)) p.1

pub returns-in_err-self-clause-begins : goal.returns-in_err-self-clause-begins
returns-in_err-self-clause-begins c =
    let p = err_from_is_err_and c.from_residual-in_err-self.result c.from_residual-in_err-self.ensures.1 in
    wants_at_head c.args.limits c.args.buffer.now c.args.self.now c.loop-count.self c.from_residual-in_err-self.result c.in_ok-count.count
    c.unwrap_or-count.result
    c.in_ok-count.rest.now c.loop-count.invariant.0 (rw take_rest at c.in_ok-count.ensures) c.unwrap_or-count.ensures c.if-count-gt0.true
    (p.1 ∙ ap (λ s. Err s) p.2)
