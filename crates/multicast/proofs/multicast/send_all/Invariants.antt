use Rattle.std.proofs.Common.{◌≡◌, ◌≤◌, ◌++◌, length}
use Rattle.multicast.proofs.multicast.send_all.Given as goal

-- what is sent and what is left are all of them, and there is room for the rest
abbrev pub invariant-loop-packet : goal.invariant-loop-packet
invariant-loop-packet l =
    (l.links.packets ++ l.packet-iterator.rest.items ≡ l.fn.links.packets ++ l.fn.sent.items)
    × (length l.packet-iterator.rest.items ≤ l.links.room)
