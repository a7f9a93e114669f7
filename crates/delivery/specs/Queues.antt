-- The queues as contracts see them, what may be appended, and what every state of the queues is like.
use Rattle.std.specs.Prelude.{◌≡◌, ℕ, Bool, true, List, [], ◌∷◌, map, slice_index, slice_index_or}
use Rattle.groups.specs.GroupSet.{has}
use Rattle.groups.specs.Order.{In}
use Rattle.groups.specs.Stamp.{stamp_lt}
use Rattle.skeen_core.specs.Group.{Ascending}
use Rattle.groups.specs.declared.stamp.Stamp.{Stamp}
use Rattle.skeen_core.specs.declared.packet.Delivered.{Delivered}
use Rattle.delivery.specs.Ready.{QueueOf}

-- one queue: its requests, oldest first, and how many more fit without memory
pub record QueueView : Type 0 where
  pub requests : List Delivered
  pub room : ℕ

-- all queues, group by group, and beside them the room of each
pub record QueuesView : Type 0 where
  pub queues : List (List Delivered)
  pub rooms : List ℕ

abbrev pub requests_of : List QueueView → List (List Delivered)
requests_of qs = map (λ q. q.requests) qs

abbrev pub rooms_of : List QueueView → List ℕ
rooms_of qs = map (λ q. q.room) qs

-- the queue of a group; beyond the last there is nothing
abbrev pub queue_of : List (List Delivered) → QueueOf
queue_of qs g = slice_index_or qs g []

abbrev pub room_of : List ℕ → ℕ → ℕ
room_of rooms g = slice_index rooms g

-- ---- what may be appended

-- the last request, if there is one, has a stamp below this one
abbrev pub is_above_last : List Delivered → Stamp → Bool
is_above_last [] s = true
is_above_last (d ∷ []) s = stamp_lt d.stamp s
is_above_last (d ∷ e ∷ es) s = is_above_last (e ∷ es) s

-- the group is one of the request's, whose stamp is above that of the last one there; where the request stands in a
-- queue already it has the same stamp and groups there; and no other request in the queues has its stamp
pub record MayAppend (queue : QueueOf) (g : ℕ) (d : Delivered) : Type 0 where
  pub member : has d.groups g ≡ true
  pub above : is_above_last (queue g) d.stamp ≡ true
  pub same : (h : ℕ) (e : Delivered) → In e (queue h) → e.id ≡ d.id → (e.stamp ≡ d.stamp) × (e.groups ≡ d.groups)
  pub single : (h : ℕ) (e : Delivered) → In e (queue h) → e.stamp ≡ d.stamp → e.id ≡ d.id

-- ---- what every state is like

-- each request stands in queues of its groups alone, stamps rise along each queue, and a request is known by its id and
-- by its stamp
pub record IsSound (queue : QueueOf) : Type 0 where
  pub member : (g : ℕ) (d : Delivered) → In d (queue g) → has d.groups g ≡ true
  pub ascending : (g : ℕ) → Ascending (queue g)
  pub one_id : (g h : ℕ) (d e : Delivered) → In d (queue g) → In e (queue h) → d.id ≡ e.id → d ≡ e
  pub one_stamp : (g h : ℕ) (d e : Delivered) → In d (queue g) → In e (queue h) → d.stamp ≡ e.stamp → d ≡ e
