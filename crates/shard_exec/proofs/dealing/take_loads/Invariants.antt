use Rattle.std.proofs.Common.{◌≡◌, ◌≤◌, length, ◌++◌, drop, vec_capacity}
use Rattle.std.specs.List.{AllZip, AllByRecursion, concat}
use Rattle.layer_planner.specs.Parts.{units_in}
use Rattle.shard_exec.specs.Dealing.{CanTake, all_works}
use Rattle.shard_exec.specs.DealtRooms.{HaveRoomFor, IsInRow, MadeWorks, all_rooms}
use Rattle.shard_exec.proofs.dealing.take_loads.Given as goal

-- what is made of the rest of the loads, behind what was, is what is made of all
abbrev pub invariant-loop-part : goal.invariant-loop-part
invariant-loop-part l = record {
  made : (ws : _) (left : _)
      → MadeWorks l.slots.items l.row.items (units_in (drop l.part-index l.plan)) (all_rooms l.rooms.rest.items) ws left
      → MadeWorks l.fn.slots.items l.fn.row.items (units_in l.plan) (all_rooms l.fn.rooms.items)
      (all_works l.loads.items ++ ws) left;
  there : CanTake l.slots.items (concat (units_in (drop l.part-index l.plan)));
  rooms : AllZip HaveRoomFor (drop l.part-index l.plan) l.rooms.rest.items;
  inside : AllByRecursion (IsInRow (length l.fn.row.items)) (all_rooms l.rooms.rest.items);
  loads : length l.loads.items ≡ l.part-index;
  room : length l.plan ≤ vec_capacity l.loads;
  len : length l.row.items ≡ length l.fn.row.items;
}
