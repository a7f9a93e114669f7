use Rattle.resp_decoder.proofs.Taking.{taking_more, takes_open, takes_fault}
use Rattle.resp_decoder.proofs.pieces.take_all.Goals as goal

pub loop-request-preserved : goal.loop-request-preserved
loop-request-preserved c =
    let takes = rw c.in-Ok-Some.field-0-is at c.in-Ok-Some.ensures.request in
    rw c.in_ok-push-in-Ok-Some.ensures.items
    (taking_more c.args.decoder.now.held c.args.requests.now.items c.loop-request.decoder.held c.loop-request.requests.items
    c.in-Ok-Some.request c.next.new.self.held c.loop-request.invariant takes)

pub returns-in-Ok-None : goal.returns-in-Ok-None
returns-in-Ok-None c =
    let waits = rw c.in-Ok-None.field-0-is at c.in-Ok-None.ensures.waits in
    let taking = c.loop-request.invariant in (
      taking.taken,
      taking.gathered,
      takes_open c.args.decoder.now.held c.args.requests.now.items c.loop-request.decoder.held c.loop-request.requests.items
          c.next.new.self.held taking waits,
    )

pub returns-in_default : goal.returns-in_default
returns-in_default c =
    let taking = c.loop-request.invariant in (
      taking.taken,
      taking.gathered,
      takes_fault c.args.decoder.now.held c.args.requests.now.items c.loop-request.decoder.held c.loop-request.requests.items c.in-Err.fault
          c.next.new.self.held taking (c.in-Err.ensures.fault c.in_default.not-Memory),
    )
