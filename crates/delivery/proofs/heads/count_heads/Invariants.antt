use Rattle.std.proofs.Common.{◌≡◌, ◌<◌, ℕ, true, length, vec_capacity}
use Rattle.groups.specs.GroupSet.{has, IsAscending}
use Rattle.delivery.specs.Queues.{requests_of, queue_of}
use Rattle.delivery.specs.Heads.{AreCounted, but}
use Rattle.delivery.proofs.heads.count_heads.Given as goal

-- the queues of the groups that are left are not counted yet
abbrev pub invariant-loop-group : goal.invariant-loop-group
invariant-loop-group l = record {
  ascending : IsAscending l.group-iterator;
  within : (g : ℕ) → has l.group-iterator g ≡ true → g < length l.queues;
  counted : AreCounted (but l.group-iterator (queue_of (requests_of l.queues))) l.ready.items l.partly.items;
  ready_capacity : vec_capacity l.ready ≡ vec_capacity l.initial.ready;
  partly_capacity : vec_capacity l.partly ≡ vec_capacity l.initial.partly;
}
