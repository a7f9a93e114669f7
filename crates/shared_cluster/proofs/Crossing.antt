-- Threads may share a cluster under its locks, where its front and its store can go to another thread.
use denote.RattleType.{RattleType}
use denote.Param.Send.{IsSend, IsSync, sendable}
use Rattle.std.proofs.Crossing.{crosses}
use Rattle.std.specs.declared.sync.ledger.Ledger as ledger
use Rattle.cluster.specs.contracts.cluster.Cluster as Cluster
use Rattle.cluster.specs.declared.names.Server as server
use Rattle.history.specs.declared.laws.Naming as naming
use Rattle.serial_store.specs.contracts.store.SerialStore as SerialStore
use Rattle.serial_store.specs.declared.law.Tabled as tabled
use Rattle.shared_cluster.specs.contracts.held.Held as Held
use Rattle.shared_cluster.specs.contracts.shared.Shared as Shared

module _ (T L : RattleType) (t : tabled.Ghosts T.Denot) (s : server.Ghosts L.Denot) (l : ledger.Ghosts L.Denot) where
  held_send : IsSend (Cluster.the_row T L t s l) → IsSend (Held.the_row T L t s l)
  held_send c = search (sendable, crosses) depth 40 fits 3000

  held_sync : IsSend (Held.the_row T L t s l) → ((J : RattleType) (n : naming.Ghosts J.Denot) → IsSend (SerialStore.the_row T J t n))
      → IsSync (Shared.the_row T L t s l)
  held_sync h b = search (sendable, crosses, b) depth 40 fits 3000

  pub shared_sync : IsSend (Cluster.the_row T L t s l)
      → ((J : RattleType) (n : naming.Ghosts J.Denot) → IsSend (SerialStore.the_row T J t n)) → IsSync (Shared.the_row T L t s l)
  shared_sync c b = held_sync (held_send c) b
