use Rattle.std.proofs.Common.{ℕ, ◌-◌, length, drop, Err, refl, sym, ap, ◌∙◌}
use Rattle.std.proofs.lemmas.Result.{err_from_is_err_and}
use Rattle.std.proofs.lemmas.List.{take_rest}
use Rattle.resp_decoder.specs.Advancing.{words_of}
use Rattle.resp_decoder.specs.Parsing.{word_at}
use Rattle.resp_decoder.specs.declared.progress.Progress.{Progress}
use Rattle.resp_decoder.proofs.Steps.{fill_step, moves_not, word_fits}
use Rattle.resp_decoder.proofs.Wants.{stops_at_word, wants_at_word}
use Rattle.resp_decoder.proofs.progress.Progress.fill.Goals as goal

pub overflow_sub-self : goal.overflow_sub-self
overflow_sub-self c =
    word_fits c.args.bulk c.args.buffer.now c.loop-self.self.start (words_of c.loop-self.self) c.in_ok-word.word.now c.in_ok-word.rest.now
    c.ranges.bulk.fits c.loop-self.invariant.0.fits
    (rw take_rest at c.in_ok-word.ensures)

pub loop-self-preserved : goal.loop-self-preserved
loop-self-preserved c =
    let new : Progress = record {
      start = length c.args.buffer.now - length c.in_ok-word.rest.now;
      name = c.keep.new.self.name;
      words = c.keep.new.self.words;
      left = c.keep.new.self.left - 1;
    } in
    let step = fill_step c.args.bulk c.args.buffer.now c.args.self.now c.loop-self.self new c.in_ok-word.word.now c.in_ok-word.rest.now
    c.ranges.bulk.fits c.loop-self.invariant.0 c.loop-self.invariant.1 c.loop-self-test.true
    (rw take_rest at c.in_ok-word.ensures) c.in_ok-keep.ensures.ok refl (ap (λ (n : ℕ). n - 1) c.in_ok-keep.ensures.left) in
    (step.0, step.1, c.in_ok-keep.ensures.little)

pub returns-in_err-word-clause-ended : goal.returns-in_err-word-clause-ended
returns-in_err-word-clause-ended c =
    let p = err_from_is_err_and c.from_residual.result c.from_residual.ensures.1 in
    stops_at_word c.args.bulk c.args.buffer.now c.loop-self.self c.from_residual.result p.0 c.loop-self-test.true
    (rw take_rest at c.in_err-word.ensures ∙ ap (λ s. Err s) (sym p.2)) p.1

pub returns-in_err-keep-clause-moved : goal.returns-in_err-keep-clause-moved
returns-in_err-keep-clause-moved c =
    moves_not c.args.buffer.now c.args.self.now c.loop-self.self c.keep.new.self c.loop-self.invariant.0 c.in_err-keep.ensures.err
    c.in_err-keep.ensures.start c.in_err-keep.ensures.left

pub returns-in_err-keep-clause-short : goal.returns-in_err-keep-clause-short
returns-in_err-keep-clause-short c = rw c.in_err-keep.ensures.err c.loop-self.invariant.1

pub returns-in_err-keep-clause-ended : goal.returns-in_err-keep-clause-ended
returns-in_err-keep-clause-ended c =
    let p = err_from_is_err_and c.from_residual-in_err-keep.result c.from_residual-in_err-keep.ensures.1 in
    wants_at_word c.args.bulk c.args.buffer.now c.keep.new.self c.from_residual-in_err-keep.result _
    (rw c.in_err-keep.ensures.left c.loop-self-test.true)
    (ap (λ (start : ℕ). word_at c.args.bulk (drop start c.args.buffer.now)) c.in_err-keep.ensures.start
    ∙ (rw take_rest at c.in_ok-word.ensures)) (p.1 ∙ ap (λ s. Err s) p.2)

pub returns-clause-little : goal.returns-clause-little
returns-clause-little c = c.loop-self.invariant.2
