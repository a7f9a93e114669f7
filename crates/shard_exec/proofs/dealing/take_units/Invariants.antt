use Rattle.std.proofs.Common.{◌≡◌, ◌≤◌, length, ◌++◌, drop, vec_capacity}
use Rattle.std.specs.List.{AllZip, AllByRecursion, concat}
use Rattle.shard_exec.specs.Dealing.{CanTake, left_at}
use Rattle.shard_exec.specs.DealtRooms.{HasRoomFor, IsInRow, MadeWorks}
use Rattle.shard_exec.proofs.dealing.take_units.Given as goal

-- what is made of the rest of the units, behind what was, is what is made of all
abbrev pub invariant-loop-number : goal.invariant-loop-number
invariant-loop-number l = record {
  made : (ws : _) (left : _)
      → MadeWorks l.slots.items l.row.items (drop l.number l.part) l.rooms.rest.items ws left
      → MadeWorks l.fn.slots.items l.fn.row.items l.part l.fn.rooms.items (l.works.items ++ ws) left;
  there : CanTake l.slots.items (concat (drop l.number l.part));
  left : left_at l.slots.items (concat (drop l.number l.part)) ≡ left_at l.fn.slots.items (concat l.part);
  rooms : AllZip HasRoomFor (drop l.number l.part) l.rooms.rest.items;
  inside : AllByRecursion (IsInRow (length l.fn.row.items)) l.rooms.rest.items;
  count : length l.works.items ≡ l.number;
  room : length l.part ≤ vec_capacity l.works;
  len : length l.row.items ≡ length l.fn.row.items;
}
