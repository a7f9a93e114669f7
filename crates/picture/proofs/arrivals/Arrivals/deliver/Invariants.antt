use Rattle.std.proofs.Common.{◌≡◌, ◌++◌, drop, map}
use Rattle.picture.specs.Arrivals.{delivery_in, delivery_of}
use Rattle.system.specs.Reads.{queues_of}
use Rattle.picture.proofs.arrivals.Arrivals.deliver.Given as goal

-- those put down so far, and those to come, are all
abbrev pub invariant-loop-place : goal.invariant-loop-place
invariant-loop-place l =
    (l.self.receipts ≡ l.fn.self.receipts)
    × (map delivery_in l.self.deliveries.items ++ map (delivery_of l.step l.group) (drop l.place (queues_of l.system l.group))
    ≡ map delivery_in l.fn.self.deliveries.items ++ map (delivery_of l.step l.group) (drop l.from (queues_of l.system l.group)))
