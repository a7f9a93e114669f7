use Rattle.std.proofs.Common.{refl, []}
use Rattle.serial_store.proofs.Keeping.{none_serial}
use Rattle.world.specs.Steps.{opening}
use Rattle.shared_cluster.proofs.names.Blanks.open.Goals as goal

pub open-requires : goal.open-requires
open-requires g c = (opening, ([], (refl, refl)))

pub open-requires-2 : goal.open-requires-2
open-requires-2 g c = none_serial g.T.Tabled.table
