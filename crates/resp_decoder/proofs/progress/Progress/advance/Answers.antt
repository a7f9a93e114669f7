use Rattle.resp_decoder.specs.Advancing.{held_bytes}
use Rattle.resp_decoder.proofs.Streams.{stream_none}
use Rattle.resp_decoder.proofs.Steps.{fills_advances}
use Rattle.resp_decoder.proofs.Wants.{wants_more}
use Rattle.resp_decoder.proofs.progress.Progress.advance.Goals as goal

pub returns-then-self-gt0-clause-reads : goal.returns-then-self-gt0-clause-reads
returns-then-self-gt0-clause-reads c =
    fills_advances c.args.limits c.args.buffer.now c.args.self.now c.args.self.now c.fill.new.self c.fill.result
    (stream_none c.args.limits (held_bytes c.args.self.now c.args.buffer.now))
    c.requires.sound c.if-self-gt0.true c.fill.ensures.moved c.fill.ensures.short c.fill.ensures.ended

pub returns-then-self-gt0-clause-wants : goal.returns-then-self-gt0-clause-wants
returns-then-self-gt0-clause-wants c = wants_more c.args.limits c.args.buffer.now c.fill.new.self c.fill.result c.fill.ensures.ended
