-- That a front, a cluster and its store can go to another thread, where their parts can.
use denote.RattleType.{RattleType}
use denote.Param.Send.{IsSend, sendable}
use denote.Param.SendFields.{declared_send, variants_send}
use Rattle.std.proofs.Crossing.{crosses}
use Rattle.std.proofs.MapsCrossing as maps
use Rattle.cluster_sending.proofs.LedgerSending.{book_send, share_send}
use Rattle.std.specs.declared.sync.ledger.Ledger as ledger
use Rattle.cluster.specs.contracts.cluster.Cluster as Cluster
use Rattle.cluster.specs.declared.names.Server as server
use Rattle.front.specs.contracts.front.Front as Front
use Rattle.history.proofs.part.Part.TheSendSync as part
use Rattle.history.proofs.writer.Writer.TheSendSync as writer
use Rattle.history.specs.declared.laws.Naming as naming
use Rattle.layer_planner.specs.contracts.job.Job as Job
use Rattle.layer_results.specs.contracts.done.DoneRow as DoneRow
use Rattle.router.specs.contracts.connection.Connection as Connection
use Rattle.router.specs.contracts.connection.Standing as Standing
use Rattle.router.specs.contracts.listed.Listed as Listed
use Rattle.router.specs.contracts.listed.Listed.TheInside as ListedInside
use Rattle.sessions.specs.contracts.member.Member as Member
use Rattle.router.specs.contracts.router.Router as Router
use Rattle.router.specs.contracts.router.Router.TheInside as Inside
use Rattle.serial_store.specs.contracts.store.SerialStore as SerialStore
use Rattle.serial_store.specs.declared.law.Tabled as tabled
use Rattle.shard_exec.specs.contracts.store.Store as Store
use Rattle.router.specs.contracts.outcome.Outcome as Outcome
use Rattle.worded.specs.contracts.worded.Worded as Worded
use Rattle.multicast.specs.contracts.multicast.Multicast as Multicast

-- what a router keeps of a list that is open, whose members may go, and of a connection
listed_in : IsSend Member.the_row → IsSend ListedInside.the_row
listed_in m = search (sendable, crosses) depth 40 fits 3000

listed_send : IsSend Member.the_row → IsSend Listed.the_row
listed_send m = let inside = listed_in m in search (sendable, inside) depth 40 fits 3000

standing_send : IsSend Worded.the_row → IsSend Outcome.the_row → IsSend Standing.the_row
standing_send w o = variants_send Standing.enum (tt, ((w, tt), (tt, ((o, tt), tt))))

connection_send : IsSend Standing.the_row → IsSend Connection.the_row
connection_send s = declared_send Connection.the_type (search sendable, (search sendable, (search sendable, (s, tt))))

inside_send : IsSend Connection.the_row → IsSend Listed.the_row → IsSend Inside.the_row
inside_send c l = search (sendable, crosses, maps.crosses) depth 40 fits 3000

pub router_send : IsSend Member.the_row → IsSend Worded.the_row → IsSend Outcome.the_row → IsSend Router.the_row
router_send m w o =
    let connection = connection_send (standing_send w o) in
    let inside = inside_send connection (listed_send m) in search (sendable, inside) depth 40 fits 3000

pub front_send : IsSend Worded.the_row → IsSend Job.the_row → IsSend Router.the_row → IsSend Multicast.the_row → IsSend Front.the_row
front_send w j r m = search (sendable, crosses) depth 40 fits 3000

-- the writer and the part of a history that they hold can, whatever is its law and its name
pub cluster_send : (T L : RattleType) (t : tabled.Ghosts T.Denot) (s : server.Ghosts L.Denot) (l : ledger.Ghosts L.Denot)
    → IsSend Front.the_row → IsSend DoneRow.the_row → IsSend (Cluster.the_row T L t s l)
cluster_send T L t s l f d = search (sendable, crosses, part.the_send, writer.the_send, book_send, share_send) depth 40 fits 3000

-- a store can, and so can a row of what comes of its layers
abbrev pub StoreSends : Type 0
StoreSends = IsSend Store.the_row × IsSend DoneRow.the_row

pub serial_store_send : (T J : RattleType) (t : tabled.Ghosts T.Denot) (n : naming.Ghosts J.Denot) → StoreSends
    → IsSend (SerialStore.the_row T J t n)
serial_store_send T J t n b = let store = b.0 in search (sendable, crosses, writer.the_send) depth 40 fits 3000
