use Rattle.std.proofs.Common.{rules}
use Rattle.shard_crew.proofs.Crossing.{captured_send}
use Rattle.shard_crew.specs.contracts.crew.start.dyn-1 as gate
use Rattle.shard_crew.proofs.crew.start.Goals as goal

pub spawn_with-requires-send-F : goal.spawn_with-requires-send-F
spawn_with-requires-send-F g c κs lives =
    captured_send _ _ _ (gate.slots g.row.E) g.dyn-1.0 _ _ _ _ _ _ (search rules depth 12) c.load_sends.ensures
