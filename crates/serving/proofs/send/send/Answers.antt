use Rattle.std.proofs.KnownBytes.{Appends-kept}
use Rattle.serving.proofs.SentLemmas.{sent_more}
use Rattle.serving.proofs.send.send.Goals.{in-Ok, in-Err+else-ne}
use Rattle.serving.proofs.send.send.Goals as goal

pub loop-preserved : goal.loop-preserved
loop-preserved g c =
    let before = c.loop.invariant in
    elim c.match-write.branch [
      | in-Ok w ↦ rw (w.rest-is, w.unwritten-rest.ensures) (sent_more _ _ _ _ _ w.in-Ok.n before w.in-Ok.ensures.bytes)
      | in-Err+else-ne w ↦ rw (w.rest-is) (before.0, before.1, Appends-kept _ _ _ before.0 before.2 w.in-Err.ensures.bytes)
    ]
