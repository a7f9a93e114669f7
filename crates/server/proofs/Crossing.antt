-- What the threads of a server capture can go to another thread, where a front and a store can.
use denote.RattleType.{RattleType}
use mathlib.Core.List.{List, [], ◌∷◌}
use mir.Syntax.{Sym, Ty, Lifetime}
use base.Fml.{Lft}
use denote.Exit.{no}
use denote.Ref.{ShrRef}
use denote.Param.{param, arg}
use denote.Param.Send.{IsSend, IsSync, AllSend, sendable, param_send, param_sync, arg_send, shr_send, recorded_send, struct_send}
use denote.Struct.Field.{u64-field}
use denote.Struct.Struct.{Struct}
use denote.Struct.Declared as declared
use denote.Struct.Tuple.{TupleAt, type_at}
use Rattle.std.proofs.Crossing.{crosses}
use Rattle.std.proofs.MapsCrossing as maps
use Rattle.std.specs.contracts.alloc.Global as Heap
use Rattle.std.specs.contracts.prelude.GlobalAllocator.TheImpl.{ghosts}
use Rattle.std.specs.contracts.sync.Arc as Arc
use Rattle.std.specs.contracts.net.tcp.TcpListener as TcpListener
use Rattle.std.specs.contracts.net.tcp.TcpStream as TcpStream
use Rattle.std.specs.contracts.num.NonZeroUsize as NonZeroUsize
use Rattle.std.specs.declared.sync.ledger.Ledger as ledger
use Rattle.cluster.specs.declared.names.Server as server
use Rattle.cluster_sending.proofs.Crossing.{StoreSends, cluster_send, serial_store_send}
use Rattle.front.specs.contracts.front.Front as Front
use Rattle.serial_store.specs.declared.law.Tabled as tabled
use Rattle.server.specs.contracts.course.Course as Course
use Rattle.server.specs.contracts.streams.Streams as Streams
use Rattle.server_waiting.specs.contracts.endings.Endings as Endings
use Rattle.shared_cluster.proofs.Crossing.{shared_sync}
use Rattle.shared_cluster.specs.contracts.desk.Turns as Turns
use Rattle.shared_cluster.specs.contracts.shared.Shared as Shared

pub shared_syncs : (T L : RattleType) (t : tabled.Ghosts T.Denot) (s : server.Ghosts L.Denot) (l : ledger.Ghosts L.Denot)
    → IsSend Front.the_row → StoreSends → IsSync (Shared.the_row T L t s l)
shared_syncs T L t s l f b = shared_sync T L t s l (cluster_send T L t s l f b.1) (λ J n. serial_store_send T J t n b)

stream_send : IsSend (Arc.the_row TcpStream.the_row Heap.the_row ghosts)
stream_send = search (sendable, crosses) depth 40 fits 3000

turns_send : IsSend Turns.the_row
turns_send = search (sendable, crosses) depth 40 fits 3000

u64_send : IsSend (u64-field).row
u64_send = search sendable depth 20

endings_sync : IsSync Endings.the_row
endings_sync = search (sendable, crosses) depth 40 fits 3000

course_sync : IsSync Course.the_row
course_sync = search (sendable, crosses) depth 40 fits 3000

streams_sync : IsSync Streams.the_row
streams_sync = search (sendable, crosses, maps.BTreeMap-send) depth 40 fits 3000

listener_sync : IsSync TcpListener.the_row
listener_sync = search (sendable, crosses) depth 40 fits 3000

workers_send : IsSend NonZeroUsize.the_row
workers_send = search (sendable, crosses) depth 40 fits 3000

module _ (δ : Ty) (ν : Sym) (T L R : RattleType) (t : tabled.Ghosts T.Denot) (s : server.Ghosts L.Denot) (l : ledger.Ghosts L.Denot) where
  -- what the thread of a connection captures
  abbrev pub served : (ℓ₁ : Lifetime) (κ₁ : Lft) (ℓ₂ : Lifetime) (κ₂ : Lft) (ℓ₃ : Lifetime) (κ₃ : Lft) (ℓ₄ : Lifetime) (κ₄ : Lft)
      (ℓ₅ : Lifetime) (κ₅ : Lft) → List RattleType
  served ℓ₁ κ₁ ℓ₂ κ₂ ℓ₃ κ₃ ℓ₄ κ₄ ℓ₅ κ₅ =
      ShrRef ℓ₁ κ₁ (Shared.the_row (param 0 T) (param 1 L) t s l) ∷ Turns.the_row ∷ (u64-field).row ∷ ShrRef ℓ₂ κ₂ Course.the_row
      ∷ ShrRef ℓ₃ κ₃ (param 2 R) ∷ Arc.the_row TcpStream.the_row Heap.the_row ghosts ∷ ShrRef ℓ₄ κ₄ Streams.the_row
      ∷ (u64-field).row ∷ ShrRef ℓ₅ κ₅ Endings.the_row ∷ []

  pub served_send : (ℓ₁ : Lifetime) (κ₁ : Lft) (ℓ₂ : Lifetime) (κ₂ : Lft) (ℓ₃ : Lifetime) (κ₃ : Lft) (ℓ₄ : Lifetime) (κ₄ : Lft)
      (ℓ₅ : Lifetime) (κ₅ : Lft) → IsSync R → IsSend Front.the_row → StoreSends
      → IsSend (param 1 (arg δ no (TupleAt ν (served ℓ₁ κ₁ ℓ₂ κ₂ ℓ₃ κ₃ ℓ₄ κ₄ ℓ₅ κ₅))))
  served_send ℓ₁ κ₁ ℓ₂ κ₂ ℓ₃ κ₃ ℓ₄ κ₄ ℓ₅ κ₅ r f b =
      let C = type_at ν (served ℓ₁ κ₁ ℓ₂ κ₂ ℓ₃ κ₃ ℓ₄ κ₄ ℓ₅ κ₅) in
      let sends : AllSend (declared.fields C) = (
        shr_send ℓ₁ κ₁ (Shared.the_row (param 0 T) (param 1 L) t s l) (shared_syncs (param 0 T) (param 1 L) t s l f b),
        (
          turns_send,
          (
            u64_send,
            (
              shr_send ℓ₂ κ₂ Course.the_row course_sync,
              (
                shr_send ℓ₃ κ₃ (param 2 R) (param_sync 2 R r),
                (
                  stream_send,
                  (
                    shr_send ℓ₄ κ₄ Streams.the_row streams_sync,
                    (u64_send, (shr_send ℓ₅ κ₅ Endings.the_row endings_sync, tt)),
                  ),
                ),
              ),
            ),
          ),
        ),
      ) in
      param_send 1 (arg δ no (declared.row C)) (arg_send δ no (declared.row C)
      (recorded_send (Struct (declared.shape C)) C.D C.to C.to_one (struct_send (declared.shape C) sends)))

  -- what the thread that drives captures
  abbrev pub driver : (ℓ₁ : Lifetime) (κ₁ : Lft) (ℓ₂ : Lifetime) (κ₂ : Lft) (ℓ₃ : Lifetime) (κ₃ : Lft) → List RattleType
  driver ℓ₁ κ₁ ℓ₂ κ₂ ℓ₃ κ₃ =
      ShrRef ℓ₁ κ₁ (Shared.the_row (param 0 T) (param 1 L) t s l) ∷ Turns.the_row ∷ (u64-field).row ∷ ShrRef ℓ₂ κ₂ Course.the_row
      ∷ ShrRef ℓ₃ κ₃ (param 2 R) ∷ NonZeroUsize.the_row ∷ []

  pub driver_send : (ℓ₁ : Lifetime) (κ₁ : Lft) (ℓ₂ : Lifetime) (κ₂ : Lft) (ℓ₃ : Lifetime) (κ₃ : Lft) → IsSync R
      → IsSend Front.the_row → StoreSends
      → IsSend (param 1 (arg δ no (TupleAt ν (driver ℓ₁ κ₁ ℓ₂ κ₂ ℓ₃ κ₃))))
  driver_send ℓ₁ κ₁ ℓ₂ κ₂ ℓ₃ κ₃ r f b =
      let C = type_at ν (driver ℓ₁ κ₁ ℓ₂ κ₂ ℓ₃ κ₃) in
      let sends : AllSend (declared.fields C) = (
        shr_send ℓ₁ κ₁ (Shared.the_row (param 0 T) (param 1 L) t s l) (shared_syncs (param 0 T) (param 1 L) t s l f b),
        (
          turns_send,
          (
            u64_send,
            (shr_send ℓ₂ κ₂ Course.the_row course_sync, (shr_send ℓ₃ κ₃ (param 2 R) (param_sync 2 R r), (workers_send, tt))),
          ),
        ),
      ) in
      param_send 1 (arg δ no (declared.row C)) (arg_send δ no (declared.row C)
      (recorded_send (Struct (declared.shape C)) C.D C.to C.to_one (struct_send (declared.shape C) sends)))

  -- what the thread that carries captures
  abbrev pub carrier : (ℓ₁ : Lifetime) (κ₁ : Lft) (ℓ₂ : Lifetime) (κ₂ : Lft) (ℓ₃ : Lifetime) (κ₃ : Lft) → List RattleType
  carrier ℓ₁ κ₁ ℓ₂ κ₂ ℓ₃ κ₃ =
      ShrRef ℓ₁ κ₁ (Shared.the_row (param 0 T) (param 1 L) t s l) ∷ Turns.the_row ∷ (u64-field).row ∷ ShrRef ℓ₂ κ₂ Course.the_row
      ∷ ShrRef ℓ₃ κ₃ (param 2 R) ∷ []

  pub carrier_send : (ℓ₁ : Lifetime) (κ₁ : Lft) (ℓ₂ : Lifetime) (κ₂ : Lft) (ℓ₃ : Lifetime) (κ₃ : Lft) → IsSync R
      → IsSend Front.the_row → StoreSends
      → IsSend (param 1 (arg δ no (TupleAt ν (carrier ℓ₁ κ₁ ℓ₂ κ₂ ℓ₃ κ₃))))
  carrier_send ℓ₁ κ₁ ℓ₂ κ₂ ℓ₃ κ₃ r f b =
      let C = type_at ν (carrier ℓ₁ κ₁ ℓ₂ κ₂ ℓ₃ κ₃) in
      let sends : AllSend (declared.fields C) = (
        shr_send ℓ₁ κ₁ (Shared.the_row (param 0 T) (param 1 L) t s l) (shared_syncs (param 0 T) (param 1 L) t s l f b),
        (
          turns_send,
          (u64_send, (shr_send ℓ₂ κ₂ Course.the_row course_sync, (shr_send ℓ₃ κ₃ (param 2 R) (param_sync 2 R r), tt))),
        ),
      ) in
      param_send 1 (arg δ no (declared.row C)) (arg_send δ no (declared.row C)
      (recorded_send (Struct (declared.shape C)) C.D C.to C.to_one (struct_send (declared.shape C) sends)))

  -- what the thread that takes connections captures
  abbrev pub taking : (ℓ₁ : Lifetime) (κ₁ : Lft) (ℓ₂ : Lifetime) (κ₂ : Lft) (ℓ₃ : Lifetime) (κ₃ : Lft) (ℓ₄ : Lifetime) (κ₄ : Lft)
      → List RattleType
  taking ℓ₁ κ₁ ℓ₂ κ₂ ℓ₃ κ₃ ℓ₄ κ₄ =
      ShrRef ℓ₁ κ₁ (Shared.the_row (param 0 T) (param 1 L) t s l) ∷ Turns.the_row ∷ (u64-field).row ∷ ShrRef ℓ₂ κ₂ Course.the_row
      ∷ ShrRef ℓ₃ κ₃ (param 2 R) ∷ ShrRef ℓ₄ κ₄ TcpListener.the_row ∷ (u64-field).row ∷ []

  pub taking_send : (ℓ₁ : Lifetime) (κ₁ : Lft) (ℓ₂ : Lifetime) (κ₂ : Lft) (ℓ₃ : Lifetime) (κ₃ : Lft) (ℓ₄ : Lifetime) (κ₄ : Lft)
      → IsSync R → IsSend Front.the_row → StoreSends → IsSend (param 1 (arg δ no (TupleAt ν (taking ℓ₁ κ₁ ℓ₂ κ₂ ℓ₃ κ₃ ℓ₄ κ₄))))
  taking_send ℓ₁ κ₁ ℓ₂ κ₂ ℓ₃ κ₃ ℓ₄ κ₄ r f b =
      let C = type_at ν (taking ℓ₁ κ₁ ℓ₂ κ₂ ℓ₃ κ₃ ℓ₄ κ₄) in
      let sends : AllSend (declared.fields C) = (
        shr_send ℓ₁ κ₁ (Shared.the_row (param 0 T) (param 1 L) t s l) (shared_syncs (param 0 T) (param 1 L) t s l f b),
        (
          turns_send,
          (
            u64_send,
            (
              shr_send ℓ₂ κ₂ Course.the_row course_sync,
              (
                shr_send ℓ₃ κ₃ (param 2 R) (param_sync 2 R r),
                (shr_send ℓ₄ κ₄ TcpListener.the_row listener_sync, (u64_send, tt)),
              ),
            ),
          ),
        ),
      ) in
      param_send 1 (arg δ no (declared.row C)) (arg_send δ no (declared.row C)
      (recorded_send (Struct (declared.shape C)) C.D C.to C.to_one (struct_send (declared.shape C) sends)))

  -- what the thread that tells reports captures
  abbrev pub reporter : (ℓ₁ : Lifetime) (κ₁ : Lft) (ℓ₂ : Lifetime) (κ₂ : Lft) (ℓ₃ : Lifetime) (κ₃ : Lft) → List RattleType
  reporter ℓ₁ κ₁ ℓ₂ κ₂ ℓ₃ κ₃ =
      ShrRef ℓ₁ κ₁ (param 2 R) ∷ (u64-field).row ∷ (u64-field).row ∷ ShrRef ℓ₂ κ₂ Course.the_row
      ∷ ShrRef ℓ₃ κ₃ (Shared.the_row (param 0 T) (param 1 L) t s l) ∷ []

  pub reporter_send : (ℓ₁ : Lifetime) (κ₁ : Lft) (ℓ₂ : Lifetime) (κ₂ : Lft) (ℓ₃ : Lifetime) (κ₃ : Lft) → IsSync R
      → IsSend Front.the_row → StoreSends
      → IsSend (param 1 (arg δ no (TupleAt ν (reporter ℓ₁ κ₁ ℓ₂ κ₂ ℓ₃ κ₃))))
  reporter_send ℓ₁ κ₁ ℓ₂ κ₂ ℓ₃ κ₃ r f b =
      let C = type_at ν (reporter ℓ₁ κ₁ ℓ₂ κ₂ ℓ₃ κ₃) in
      let sends : AllSend (declared.fields C) = (
        shr_send ℓ₁ κ₁ (param 2 R) (param_sync 2 R r),
        (
          u64_send,
          (
            u64_send,
            (
              shr_send ℓ₂ κ₂ Course.the_row course_sync,
              (
                shr_send ℓ₃ κ₃ (Shared.the_row (param 0 T) (param 1 L) t s l) (shared_syncs (param 0 T) (param 1 L) t s l f b),
                tt,
              ),
            ),
          ),
        ),
      ) in
      param_send 1 (arg δ no (declared.row C)) (arg_send δ no (declared.row C)
      (recorded_send (Struct (declared.shape C)) C.D C.to C.to_one (struct_send (declared.shape C) sends)))
