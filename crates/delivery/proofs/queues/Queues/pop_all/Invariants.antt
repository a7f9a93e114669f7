use Rattle.std.proofs.Common.{◌≡◌, ℕ, ◌≤◌, length, drop}
use Rattle.delivery.specs.Queues.{queue_of, room_of}
use Rattle.delivery.specs.Taking.{Poppable, popped_all}
use Rattle.delivery.proofs.queues.Queues.pop_all.Given as goal

-- those that are left can be popped, and that gives what popping all gives
abbrev pub invariant-loop-request : goal.invariant-loop-request
invariant-loop-request l = record {
  poppable : Poppable (queue_of l.self.queues) (drop l.request-index l.requests);
  popped : popped_all (drop l.request-index l.requests) (queue_of l.self.queues) ≡ popped_all l.requests (queue_of l.initial.self.queues);
  groups : length l.self.queues ≡ length l.initial.self.queues;
  rooms : (g : ℕ) → room_of l.initial.self.rooms g ≤ room_of l.self.rooms g;
}
