use Rattle.std.proofs.Common.{◌≡◌, ℕ, [], length}
use Rattle.delivery.specs.Queues.{queue_of, requests_of}
use Rattle.delivery.proofs.queues.Queues.new.Given as goal

-- so many queues, all empty
abbrev pub invariant-loop : goal.invariant-loop
invariant-loop l = record {
  count : length l.queues.items ≡ l.counter;
  empty : (g : ℕ) → queue_of (requests_of l.queues.items) g ≡ [];
}
