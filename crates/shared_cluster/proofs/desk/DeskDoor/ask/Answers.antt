use Rattle.std.proofs.Common.{sym}
use Rattle.shared_cluster.proofs.Refusals.{told_of_memory}
use Rattle.shared_cluster.proofs.desk.DeskDoor.ask.Goals as goal

pub returns-in-Memory : goal.returns-in-Memory
returns-in-Memory g c =
    told_of_memory c.args.self.now.seat c.args.request c.in-Err.fault c.asked.new.self.seat c.in-Err.ensures.refused
    (sym c.in-Memory.ensures)
