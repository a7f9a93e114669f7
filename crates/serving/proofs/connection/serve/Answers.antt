use Rattle.std.proofs.Common.{arith, ◌<◌, length}
use Rattle.serving.proofs.StreamLemmas.{take_short}
use Rattle.serving.proofs.ServeLemmas.{serving_start, serving_again, serving_more, serves_nothing, serves_unread, serves_end, serves_inside}
use Rattle.serving.proofs.ServeLemmas.{serves_unfed, serves_fault, serves_broken}
use Rattle.serving.proofs.connection.serve.Goals.{then-pending, else-pending}
use Rattle.serving.proofs.connection.serve.Goals as goal

pub returns-in_default : goal.returns-in_default
returns-in_default g c = serves_nothing g.D.Door.asks _ _ _ _

pub loop-init : goal.loop-init
loop-init g c = (
  serving_start g.D.Door.asks _ _ _ _ _ c.new-decoder.ensures.held,
  omega (arith, c.as_mut_slice-piece.ensures.len, c.in-Ok.ensures.len),
)

pub loop-preserved-then-eq : goal.loop-preserved-then-eq
loop-preserved-then-eq g c = (
  serving_again g.D.Door.asks _ _ _ _ _ _ _ _ _ c.loop.invariant.0 c.in-Err.ensures.bytes,
  omega (arith, c.loop.invariant.1, c.read.auto.buf, c.loop.auto.piece),
)

pub returns-in-Err : goal.returns-in-Err
returns-in-Err g c =
    serves_unread g.D.Door.asks _ _ _ _ _ _ _ _ (serving_again g.D.Door.asks _ _ _ _ _ _ _ _ _ c.loop.invariant.0 c.in-Err.ensures.bytes)

pub returns-then-n-eq0 : goal.returns-then-n-eq0
returns-then-n-eq0 g c =
    let room : 0 < length c.read.new.buf = omega (arith, c.loop.invariant.1, c.read.auto.buf) in
    elim c.if-pending.branch [
      | then-pending w ↦ rw w.result-is
          (serves_inside g.D.Door.asks _ _ _ _ _ _ _ _ _ _ _ _ c.loop.invariant.0 room c.in-Ok-read.ensures.bytes c.if-n-eq0.true
          c.pending.ensures w.if-pending.true)
      | else-pending w ↦ rw w.result-is (serves_end g.D.Door.asks _ _ _ _ _ _ _ _ _ _ _ _ c.loop.invariant.0 room c.in-Ok-read.ensures.bytes
          c.if-n-eq0.true c.pending.ensures w.if-pending.false)
    ]

pub returns-in_default-feed : goal.returns-in_default-feed
returns-in_default-feed g c = serves_unfed g.D.Door.asks _ _ _ _ _ _ _ _ _ _ c.loop.invariant.0 c.in-Ok-read.ensures.bytes.0
    (omega (arith, take_short c.in-Ok-read.n c.read.new.buf, c.loop.invariant.1, c.read.auto.buf))

pub returns-in-Some : goal.returns-in-Some
returns-in-Some g c =
    serves_fault g.D.Door.asks _ _ _ _ _ _ _ _ _ _ _ _ _ _ _ c.loop.invariant.0 c.in-Ok-read.ensures.bytes.0 c.in-Ok-feed.ensures.ok
    (rw c.in-Some.is at c.in-Ok-answer_held.ensures)

pub returns-in-Err-answer_held : goal.returns-in-Err-answer_held
returns-in-Err-answer_held g c =
    serves_broken g.D.Door.asks _ _ _ _ _ _ _ _ _ _ _ _ _ _ _ c.loop.invariant.0 c.in-Ok-read.ensures.bytes.0 c.in-Ok-feed.ensures.ok
    c.in-Err-answer_held.ensures
    (omega (arith, take_short c.in-Ok-read.n c.read.new.buf, c.loop.invariant.1, c.read.auto.buf))

pub loop-preserved : goal.loop-preserved
loop-preserved g c = (
  serving_more g.D.Door.asks _ _ _ _ _ _ _ _ _ _ _ _ _ _ c.loop.invariant.0 c.in-Ok-read.ensures.bytes.0 c.in-Ok-feed.ensures.ok
      (rw c.in_default-fault.is at c.in-Ok-answer_held.ensures),
  omega (arith, c.loop.invariant.1, c.read.auto.buf),
)
