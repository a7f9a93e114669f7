-- What the thread of a load captures can go to another thread, where a load can.
use denote.RattleType.{RattleType}
use mathlib.Core.List.{List, [], ◌∷◌}
use mir.Syntax.{Sym, Ty, Lifetime, Dict, Slots}
use base.Fml.{Lft}
use borrow.Table.Object.{obj_ref}
use denote.Exit.{no}
use denote.Ref.{ShrRef}
use denote.Slice.{ShrSlice}
use denote.Param.{param, arg}
use denote.Param.Send.{IsSend, IsSync, AllSend, sendable, param_send, arg_send, shr_send, shr_slice_send, recorded_send, struct_send}
use denote.Param.Sent.{Syncs, shr_any_send}
use denote.Param.Table.{Table, ShrAny}
use denote.Struct.Struct.{Struct}
use denote.Struct.Declared as declared
use denote.Struct.Tuple.{TupleAt, type_at}
use Rattle.std.proofs.Crossing.{crosses}
use Rattle.std.specs.contracts.alloc.Global as Heap
use Rattle.groups.specs.contracts.skip_id.SkipId as Name
use Rattle.placement.specs.contracts.table.Table as Placement
use Rattle.shard_workers.specs.contracts.load.Load as Load

heap_send : IsSend Heap.the_row
heap_send = search (sendable, crosses) depth 40 fits 3000

table_sync : IsSync Placement.the_row
table_sync = search (sendable, crosses) depth 40 fits 3000

name_sync : IsSync Name.the_row
name_sync = search (sendable, crosses) depth 40 fits 3000

module _ {G : Type 0 → Type 1} (δ : Ty) (ν ν₂ : Sym) (slots : Dict → Slots) (gates : Table G Dict) where
  -- what the thread of a load captures: the load, the heap, the table, the names of what is skipped and the gate
  abbrev pub captured : (ℓ₁ : Lifetime) (κ₁ : Lft) (ℓ₂ : Lifetime) (κ₂ : Lft) (ℓ₃ : Lifetime) (κ₃ : Lft) → List RattleType
  captured ℓ₁ κ₁ ℓ₂ κ₂ ℓ₃ κ₃ =
      Load.the_row ∷ Heap.the_row ∷ ShrRef ℓ₁ κ₁ Placement.the_row ∷ ShrSlice ℓ₂ κ₂ Name.the_row
      ∷ ShrAny ν₂ (obj_ref ℓ₃) slots gates ℓ₃ κ₃ ∷ []

  pub captured_send : (ℓ₁ : Lifetime) (κ₁ : Lft) (ℓ₂ : Lifetime) (κ₂ : Lft) (ℓ₃ : Lifetime) (κ₃ : Lft) → Syncs gates
      → IsSend Load.the_row → IsSend (param 2 (arg δ no (TupleAt ν (captured ℓ₁ κ₁ ℓ₂ κ₂ ℓ₃ κ₃))))
  captured_send ℓ₁ κ₁ ℓ₂ κ₂ ℓ₃ κ₃ syncs s =
      let T = type_at ν (captured ℓ₁ κ₁ ℓ₂ κ₂ ℓ₃ κ₃) in
      let sends : AllSend (declared.fields T) = (
        s,
        (
          heap_send,
          (
            shr_send ℓ₁ κ₁ Placement.the_row table_sync,
            (shr_slice_send ℓ₂ κ₂ Name.the_row name_sync, (shr_any_send slots gates syncs ν₂ (obj_ref ℓ₃) ℓ₃ κ₃, tt)),
          ),
        ),
      ) in
      param_send 2 (arg δ no (declared.row T)) (arg_send δ no (declared.row T)
      (recorded_send (Struct (declared.shape T)) T.D T.to T.to_one (struct_send (declared.shape T) sends)))
