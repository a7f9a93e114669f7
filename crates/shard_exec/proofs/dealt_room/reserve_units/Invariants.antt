use Rattle.std.proofs.Common.{take}
use Rattle.std.specs.List.{AllZip}
use Rattle.layer_planner.specs.Units.{groups_each}
use Rattle.shard_exec.specs.DealtRooms.{HasRoomFor, IsForGroups}
use Rattle.shard_exec.proofs.dealt_room.reserve_units.Given as goal

abbrev pub invariant-loop-number : goal.invariant-loop-number
invariant-loop-number l = record {
  room : AllZip HasRoomFor (take l.number l.part) l.rooms.items;
  groups : AllZip (IsForGroups (groups_each l.jobs)) (take l.number l.part) l.rooms.items;
}
