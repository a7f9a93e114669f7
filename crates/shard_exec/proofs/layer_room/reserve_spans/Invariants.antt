use Rattle.std.proofs.Common.{take}
use Rattle.std.specs.List.{AllZip}
use Rattle.shard_exec.specs.Rooms.{FitsAt}
use Rattle.shard_exec.proofs.layer_room.reserve_spans.Given as goal

abbrev pub invariant-loop-place : goal.invariant-loop-place
invariant-loop-place l = AllZip (FitsAt l.jobs) (take l.place-index l.places) l.spans.items
