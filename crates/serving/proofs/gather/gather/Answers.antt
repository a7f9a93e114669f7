use Rattle.std.proofs.Common.{arith}
use Rattle.resp_decoder.proofs.Taking.{taking_shorter}
use Rattle.serving.proofs.GatherLemmas.{gathering_start, gathering_more, gathers_full, gathers_waits, gathers_line, gathers_reply}
use Rattle.serving.proofs.gather.gather.Goals as goal

pub loop-decoder-init : goal.loop-decoder-init
loop-decoder-init g c = gathering_start g.D.Door.asks _ _ _ c.empty.ensures.items

pub returns-in-Err : goal.returns-in-Err
returns-in-Err g c =
    gathers_line g.D.Door.asks _ _ _ _ _ _ _ _ _ _ c.loop-decoder.invariant c.requires c.in-Err.ensures.fault c.gather_line.ensures

pub returns-in_default : goal.returns-in_default
returns-in_default g c =
    gathers_waits g.D.Door.asks _ _ _ _ _ _ c.loop-decoder.invariant (rw c.in_default.is at c.in-Ok.ensures.waits)

pub returns-in-Err-gather_reply : goal.returns-in-Err-gather_reply
returns-in-Err-gather_reply g c =
    gathers_reply g.D.Door.asks _ _ _ _ _ _ _ _ _ _ _ c.loop-decoder.invariant (rw c.in-Some.is at c.in-Ok.ensures.request)
    c.in-Err-gather_reply.ensures
    (omega (arith, c.loop-decoder-test.true, c.len.ensures, c.loop-decoder.replies.ok))

pub loop-decoder-smaller : goal.loop-decoder-smaller
loop-decoder-smaller g c = taking_shorter _ _ _ (rw c.in-Some.is at c.in-Ok.ensures.request)

pub loop-decoder-preserved : goal.loop-decoder-preserved
loop-decoder-preserved g c =
    gathering_more g.D.Door.asks _ _ _ _ _ _ 0 _ _ _ c.loop-decoder.invariant (rw c.in-Some.is at c.in-Ok.ensures.request)
    c.in_default-gather_reply.ensures
    (omega (arith, c.loop-decoder-test.true, c.len.ensures, c.loop-decoder.replies.ok))

pub returns : goal.returns
returns g c = gathers_full g.D.Door.asks _ _ _ _ _ c.loop-decoder.invariant
    (omega (arith, c.loop-decoder-test.false, c.len.ensures, c.loop-decoder.replies.ok.0))
