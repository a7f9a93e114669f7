use Rattle.std.proofs.Common.{◌<◌, length, subst}
use Rattle.cluster.proofs.Turns.{turn_fault}
use Rattle.cluster.specs.Histories.{HistoryView}
use Rattle.cluster.proofs.ordered.History.turn.Goals as goal

pub returns-in-Err-clause-room : goal.returns-in-Err-clause-room
returns-in-Err-clause-room g c = c.in-Err.ensures.room_back c.args.kept

pub returns-in-Err-clause-refused : goal.returns-in-Err-clause-refused
returns-in-Err-clause-refused g c =
    let place = c.pick-place.result in
    let there = subst (λ n. place < n) c.packets-packets.ensures c.pick-place.ensures.below in
    turn_fault c.args.self.now place c.in-Err.fault c.lawful.ensures.lawful
    (subst (λ (h : HistoryView). place < length h.front.multicast.packets) c.self.view_is there) c.in-Err.ensures.fault
