-- All groups with the packets between them and their queues.
use Rattle.std.specs.Prelude.{◌≡◌, ℕ, zero, suc, ◌*◌, ◌==◌, ◌<◌, ◌≤◌, true, false, cond, List, [], ◌∷◌, ◌++◌, length, remove, slice_get}
use Rattle.std.specs.Prelude.{slice_index_or, Some}
use Rattle.delivery.specs.Queues.{queue_of, MayAppend, IsSound}
use Rattle.delivery.specs.Ready.{QueueOf, IsLayer, left_in}
use Rattle.groups.specs.GroupSet.{has}
use Rattle.groups.specs.Stamp.{final}
use Rattle.groups.specs.declared.stamp.Stamp.{Stamp}
use Rattle.skeen_core.specs.Group.{GroupState, GroupView, new_group, next_clock, MayCome, Receives}
use Rattle.skeen_core.specs.Offers.{Offers, settled}
use Rattle.skeen_core.specs.declared.packet.Body.{Body}
use Rattle.skeen_core.specs.declared.packet.Body.TheVariants.{Start, Proposal}
use Rattle.skeen_core.specs.declared.packet.Delivered.{Delivered}
use Rattle.skeen_core.specs.declared.packet.Packet.{Packet}
use Rattle.groups.specs.declared.request.RequestId.{RequestId}

-- the groups by their numbers, the packets under way in order of sending, each group's queue, and how many more packets
-- fit without memory
pub record MulticastView : Type 0 where
  pub groups : List GroupView
  pub packets : List Packet
  pub queues : List (List Delivered)
  pub room : ℕ

-- the state of a group; one that isn't there is as a new one
abbrev pub group_of : List GroupView → ℕ → GroupState
group_of groups g = (slice_index_or groups g (new_group g)).state

-- the function with one value changed
abbrev pub at : {X : Type 0} → (ℕ → X) → ℕ → X → ℕ → X
at f n x = λ m. cond (m == n) x (f m)

-- nothing but the room may be other
pub record IsSame (old new : MulticastView) : Type 0 where
  pub groups : new.groups ≡ old.groups
  pub packets : new.packets ≡ old.packets
  pub queues : new.queues ≡ old.queues

-- ---- a request begins

-- one Start for each of these groups
abbrev pub starts_to : RequestId → ℕ → List ℕ → List ℕ → List Packet
starts_to id floor all [] = []
starts_to id floor all (g ∷ gs) = record { to = g; id = id; body = Start floor all } ∷ starts_to id floor all gs

-- its Starts go behind all packets
pub record Begins (old : MulticastView) (id : RequestId) (floor : ℕ) (addressed : List ℕ) (new : MulticastView) : Type 0 where
  pub groups : new.groups ≡ old.groups
  pub packets : new.packets ≡ old.packets ++ starts_to id floor addressed addressed
  pub queues : new.queues ≡ old.queues

-- ---- a packet comes

-- the requests may be appended to the group's queue one after another
abbrev pub MayAppendAll : QueueOf → ℕ → List Delivered → Type 0
MayAppendAll queue g [] = Unit {0}
MayAppendAll queue g (d ∷ ds) = MayAppend queue g d × MayAppendAll (at queue g (queue g ++ d ∷ [])) g ds

-- the packet may come to its group, and whatever that group delivers then may go to its queue
pub record MayBeDelivered (v : MulticastView) (p : Packet) : Type 0 where
  pub there : p.to < length v.groups
  pub comes : MayCome p.to (group_of v.groups p.to) p
  pub appends : (sent : List Packet) (ds : List Delivered) (state : GroupState) →
      Receives p.to (group_of v.groups p.to) p.id p.body sent ds state → MayAppendAll (queue_of v.queues) p.to ds

-- how many packets a group sends at most when this comes
abbrev pub sends_at_most : Body → ℕ
sends_at_most (Start floor groups) = length groups
sends_at_most (Proposal from clock) = 0

-- The packet at a place has come to its group, which has done with it what its rule says. What it sends goes behind all
-- that is under way, and what it delivers behind its queue.
pub record Delivers (old : MulticastView) (place : ℕ) (new : MulticastView) : Type 0 where
  pub packet : Packet
  pub sent : List Packet
  pub delivered : List Delivered
  pub state : GroupState
  pub there : slice_get old.packets place ≡ Some packet
  pub receives : Receives packet.to (group_of old.groups packet.to) packet.id packet.body sent delivered state
  pub packets : new.packets ≡ remove old.packets place ++ sent
  pub group : (g : ℕ) → group_of new.groups g ≡ at (group_of old.groups) packet.to state g
  pub queue : (g : ℕ) → queue_of new.queues g ≡ at (queue_of old.queues) packet.to (queue_of old.queues packet.to ++ delivered) g
  pub count : length new.groups ≡ length old.groups

-- ---- a packet is repeated

-- a copy of the packet at a place goes behind all that is under way
pub record Repeats (old : MulticastView) (place : ℕ) (new : MulticastView) : Type 0 where
  pub packet : Packet
  pub there : slice_get old.packets place ≡ Some packet
  pub groups : new.groups ≡ old.groups
  pub packets : new.packets ≡ old.packets ++ packet ∷ []
  pub queues : new.queues ≡ old.queues

-- ---- a layer is taken

pub record LosesLayer (old : MulticastView) (layer : List Delivered) (new : MulticastView) : Type 0 where
  pub groups : new.groups ≡ old.groups
  pub packets : new.packets ≡ old.packets
  pub queue : (g : ℕ) → queue_of new.queues g ≡ left_in layer (queue_of old.queues g)

-- ---- a request passes

-- so many packets come, each the oldest then
abbrev pub Arrives : ℕ → MulticastView → MulticastView → Type 0
Arrives zero old new = new ≡ old
Arrives (suc n) old new = (mid : MulticastView) × Delivers old 0 mid × Arrives n mid new

-- so many packets a request of so many groups has: a Start for each, which tells each other one its proposal
abbrev pub packets_of : List ℕ → ℕ
packets_of addressed = length addressed * length addressed

-- A request begins, all its packets come, and it is taken as a layer of its own.
pub record Passes (old : MulticastView) (id : RequestId) (floor : ℕ) (addressed : List ℕ) (d : Delivered) (new : MulticastView) : Type 0
  where
    pub groups : d.groups ≡ addressed
    pub begun : MulticastView
    pub begins : Begins old id floor addressed begun
    pub come : MulticastView
    pub arrives : Arrives (packets_of addressed) begun come
    pub layer : IsLayer (queue_of come.queues) (d ∷ [])
    pub taken : IsSound (queue_of come.queues) → LosesLayer come (d ∷ []) new

-- A request is alone: each of its groups would propose for it, nothing stands in their queues, and s is the greatest proposal.
pub record IsAlone (groups : List GroupView) (queues : List (List Delivered)) (id : RequestId) (floor : ℕ) (addressed : List ℕ) (s : Stamp)
    : Type 0 where
  pub offers : (g : ℕ) → has addressed g ≡ true → Offers (group_of groups g) id floor (next_clock (group_of groups g) floor)
  pub empty : (g : ℕ) → has addressed g ≡ true → queue_of queues g ≡ []
  pub greatest : final (λ g. Some (next_clock (group_of groups g) floor)) addressed ≡ Some s

-- it was delivered by each of its groups at this clock
pub record AreSettled (old : List GroupView) (id : RequestId) (clock : ℕ) (addressed : List ℕ) (new : List GroupView) : Type 0 where
  pub count : length new ≡ length old
  pub inside : (g : ℕ) → has addressed g ≡ true → group_of new g ≡ settled (group_of old g) id clock
  pub outside : (g : ℕ) → has addressed g ≡ false → group_of new g ≡ group_of old g
  pub numbered : ((g : ℕ) → (d : GroupView) → g < length old → (slice_index_or old g d).me ≡ g) →
      (g : ℕ) → (d : GroupView) → g < length new → (slice_index_or new g d).me ≡ g

-- ---- what every state is like

-- there is a queue for each group, at most 64, and each group knows its number
pub record IsWhole (groups : List GroupView) (queues : List (List Delivered)) : Type 0 where
  pub as_many : length queues ≡ length groups
  pub at_most_64 : length groups ≤ 64
  pub numbered : (g : ℕ) → (d : GroupView) → g < length groups → (slice_index_or groups g d).me ≡ g

-- it is whole, and what stands in the queues is sound
pub record IsKept (groups : List GroupView) (queues : List (List Delivered)) : Type 0 where
  pub whole : IsWhole groups queues
  pub sound : IsSound (queue_of queues)
