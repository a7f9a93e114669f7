use Rattle.std.proofs.lemmas.Result.{err_from_is_err_and}
use Rattle.resp_decoder.proofs.Steps.{fills_advances, none_advances, begins_stream}
use Rattle.resp_decoder.proofs.Wants.{wants_begun, wants_none}
use Rattle.resp_decoder.proofs.progress.Progress.begin_and_fill.Goals as goal

pub returns-in_err-begin-clause-reads : goal.returns-in_err-begin-clause-reads
returns-in_err-begin-clause-reads c =
    let p = err_from_is_err_and c.from_residual.result c.from_residual.ensures.1 in
    none_advances c.args.limits c.args.buffer.now c.args.self.now c.begin.new.self c.from_residual.result c.requires.idle
    (rw (p.1, p.2) c.in_err-begin.ensures.begins)

pub returns-in_err-begin-clause-wants : goal.returns-in_err-begin-clause-wants
returns-in_err-begin-clause-wants c =
    let p = err_from_is_err_and c.from_residual.result c.from_residual.ensures.1 in
    wants_none c.args.limits c.args.buffer.now c.args.self.now c.begin.new.self c.from_residual.result
    (rw (p.1, p.2) c.in_err-begin.ensures.begins)

pub returns-clause-reads : goal.returns-clause-reads
returns-clause-reads c =
    let begun = c.in_ok-begin.ensures.begins in
    fills_advances c.args.limits c.args.buffer.now c.args.self.now c.begin.new.self c.fill.new.self c.fill.result
    (begins_stream c.args.limits c.args.buffer.now c.args.self.now c.begin.new.self c.requires.idle begun)
    begun.sound begun.lacking c.fill.ensures.moved c.fill.ensures.short c.fill.ensures.ended

pub returns-clause-wants : goal.returns-clause-wants
returns-clause-wants c = λ e. wants_begun c.args.limits c.args.buffer.now c.args.self.now c.begin.new.self c.in_ok-begin.ensures.begins
