use Rattle.std.proofs.Common.{rules}
use Rattle.multicast.proofs.multicast.make_room.Goals as goal

pub overflow_add-delivers : goal.overflow_add-delivers
overflow_add-delivers c = let small = c.started-delivers.ensures.small in search (rules, small)
