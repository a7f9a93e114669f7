use Rattle.std.proofs.Common.{ap, ◌∙◌}
use Rattle.resp_decoder.specs.Decoding.{Held}
use Rattle.serving.proofs.WriteLemmas.{writing_start, writing_more, writing_shorter, answers_waits, answers_faulty, answers_starved}
use Rattle.serving.proofs.WriteLemmas.{answers_closed, answers_unsent}
use Rattle.serving.proofs.connection.answer_held.Goals as goal

pub loop-pause-init : goal.loop-pause-init
loop-pause-init g c = writing_start g.D.Door.asks _ _ _

pub gather-pause-requires : goal.gather-pause-requires
gather-pause-requires g c = ap (λ (h : Held). h.fault) c.loop-pause.invariant.held ∙ c.requires

pub returns-in_default : goal.returns-in_default
returns-in_default g c =
    answers_unsent g.D.Door.asks _ _ _ _ _ _ _ _ _ _ _ c.loop-pause.invariant c.gather-pause.ensures
    (rw c.as_slice.ensures.value at c.in_default.ensures.err)

pub loop-pause-smaller : goal.loop-pause-smaller
loop-pause-smaller g c = writing_shorter g.D.Door.asks c.args.decoder.now.held c.args.door.now (g.W.Write.contents c.args.writer.now) _ _ _
    _ _ c.in-Full.ensures

pub loop-pause-preserved : goal.loop-pause-preserved
loop-pause-preserved g c =
    writing_more g.D.Door.asks _ _ _ _ _ _ _ _ _ _ c.loop-pause.invariant c.in-Full.ensures
    (rw c.as_slice.ensures.value at c.in-Ok.ensures.ok)

pub returns-in-Waits : goal.returns-in-Waits
returns-in-Waits g c =
    answers_waits g.D.Door.asks _ _ _ _ _ _ _ _ _ _ c.loop-pause.invariant c.in-Waits.ensures
    (rw c.as_slice.ensures.value at c.in-Ok.ensures.ok)

pub returns-in-Faulty : goal.returns-in-Faulty
returns-in-Faulty g c =
    answers_faulty g.D.Door.asks _ _ _ _ _ _ _ _ _ _ _ c.loop-pause.invariant c.in-Faulty.ensures
    (rw c.as_slice.ensures.value at c.in-Ok.ensures.ok)

pub returns-in-Starved : goal.returns-in-Starved
returns-in-Starved g c =
    answers_starved g.D.Door.asks _ _ _ _ _ _ _ _ _ _ c.loop-pause.invariant c.in-Starved.ensures
    (rw c.as_slice.ensures.value at c.in-Ok.ensures.ok)

pub returns-in-Closed : goal.returns-in-Closed
returns-in-Closed g c =
    answers_closed g.D.Door.asks _ _ _ _ _ _ _ _ _ _ _ c.loop-pause.invariant c.in-Closed.ensures
    (rw c.as_slice.ensures.value at c.in-Ok.ensures.ok)
