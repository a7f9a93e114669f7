use Rattle.std.proofs.Common.{◌≡◌, ℕ, ◌≤◌, length}
use Rattle.delivery.specs.Queues.{queue_of, room_of}
use Rattle.multicast.specs.Multicast.{MayAppendAll}
use Rattle.multicast.proofs.Queues.{with_rest}
use Rattle.multicast.proofs.multicast.append_all.Given as goal

-- the rest may be appended, there is room for it, and once it is appended too the queues are as they are to be
abbrev pub invariant-loop-request : goal.invariant-loop-request
invariant-loop-request l = record {
  count : length l.queues.queues ≡ length l.fn.queues.queues;
  may : MayAppendAll (queue_of l.queues.queues) l.fn.group l.request-iterator.rest.items;
  room : length l.request-iterator.rest.items ≤ room_of l.queues.rooms l.fn.group;
  whole : (g : ℕ) → with_rest l.queues.queues l.fn.group l.request-iterator.rest.items g
      ≡ with_rest l.fn.queues.queues l.fn.group l.fn.delivered.items g;
}
