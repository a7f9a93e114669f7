use Rattle.std.proofs.Common.{◌≤◌, sym, subst}
use Rattle.system.specs.Reads.{packets_of}
use Rattle.picture.proofs.Landing.{sends_more, sends_end}
use Rattle.picture.proofs.flights.Flights.send.Goals as goal

pub loop-place-preserved : goal.loop-place-preserved
loop-place-preserved c =
    sends_more c.args.step c.args.from c.loop-place.place (packets_of c.args.system.now) c.in-Some.packet.now c.args.self.now
    c.loop-place.self c.push.new.self (sym c.in-Some.ensures) c.loop-place.invariant c.in_ok-push.ensures

pub returns : goal.returns
returns c =
    sends_end c.args.step c.args.from c.loop-place.place (packets_of c.args.system.now) c.args.self.now c.loop-place.self
    (subst (λ k. k ≤ c.loop-place.place) c.packets-place-end.ensures c.loop-place-test.false) c.loop-place.invariant
