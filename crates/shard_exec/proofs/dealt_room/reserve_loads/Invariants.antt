use Rattle.std.proofs.Common.{take}
use Rattle.std.specs.List.{AllZip}
use Rattle.layer_planner.specs.Units.{groups_each}
use Rattle.shard_exec.specs.DealtRooms.{FitsLoad}
use Rattle.shard_exec.proofs.dealt_room.reserve_loads.Given as goal

abbrev pub invariant-loop-part : goal.invariant-loop-part
invariant-loop-part l = AllZip (FitsLoad (groups_each l.jobs)) (take l.part-index l.plan) l.rooms.items
