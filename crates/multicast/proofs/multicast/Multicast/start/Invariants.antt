use Rattle.std.proofs.Common.{◌≡◌, ◌≤◌, ◌++◌, length}
use Rattle.multicast.specs.Multicast.{starts_to}
use Rattle.multicast.proofs.multicast.Multicast.start.Given as goal

-- what is sent and what is left are all Starts, and there is room for the rest
abbrev pub invariant-loop-group : goal.invariant-loop-group
invariant-loop-group l = record {
  groups : l.self-inside.groups ≡ l.initial.self-inside.groups;
  queues : l.self-inside.queues ≡ l.initial.self-inside.queues;
  sent : l.self-inside.links.packets ++ starts_to l.id l.floor l.groups l.group-iterator ≡ l.initial.self-inside.links.packets
      ++ starts_to l.id l.floor l.groups l.groups;
  room : length (starts_to l.id l.floor l.groups l.group-iterator) ≤ l.self-inside.links.room;
}
