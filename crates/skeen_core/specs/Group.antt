-- One group's rule: the state after a packet, what the group sends, and what it delivers. From Skeen's algorithm in
-- Guerraoui and Schiper 2001: a process that gets a message adds one to its clock and proposes that timestamp to the
-- other addressees; when it has all proposals it takes the greatest, and delivers messages in timestamp order once no
-- message that it still waits for could come before. The floor is this project's own addition; at 0 it changes nothing.
-- So is what a group does with packets that repeat: it keeps, for each connection, the greatest number of a request that
-- it has delivered, and a packet of a request that isn't above it changes nothing.
use Rattle.std.specs.FinMap.{FinMap, get, insert, retain_keys, empty, len}
use Rattle.std.specs.Ordering.{nat_cmp}
use Rattle.std.specs.Prelude.{◌≡◌, ◌≢◌, ℕ, suc, ◌+◌, ◌≤◌, Bool, true, false, cond, not, List, [], ◌∷◌, ◌||◌, ◌==◌, max, length, ◌⊎◌, Option}
use Rattle.std.specs.Prelude.{Some, None, IsSome, nat_le}
use Rattle.groups.specs.GroupSet.{has}
use Rattle.groups.specs.Order.{In}
use Rattle.groups.specs.Request.{same_id, id_cmp, source_cmp}
use Rattle.groups.specs.Stamp.{stamp_lt, final}
use Rattle.groups.specs.declared.stamp.Stamp.{Stamp}
use Rattle.groups.specs.declared.request.RequestId.{RequestId}
use Rattle.skeen_core.specs.declared.packet.Packet.{Packet}
use Rattle.skeen_core.specs.declared.packet.Body.{Body}
use Rattle.skeen_core.specs.declared.packet.Body.TheVariants.{Start, Proposal}
use Rattle.skeen_core.specs.declared.packet.Delivered.{Delivered}
use Rattle.skeen_core.specs.declared.coming.TheConstants.{GREATEST_CLOCK}

pub record GroupState : Type 0 where
  pub clock : ℕ
  pub started : FinMap id_cmp (List ℕ)  -- the started requests, with the groups that each addresses
  pub proposals : FinMap source_cmp ℕ  -- the clocks of the proposals, the group's own among them
  pub reached : FinMap nat_cmp ℕ  -- by connection, the greatest number of a request that was delivered

-- a group by its number, its state, and how many started requests its last receipt looked at
pub record GroupView : Type 0 where
  pub me : ℕ
  pub state : GroupState
  pub looks : ℕ

abbrev pub fresh : GroupState
fresh = record { clock = 0; started = empty; proposals = empty; reached = empty }

-- a group that nothing has come to
abbrev pub new_group : ℕ → GroupView
new_group me = record { me = me; state = fresh; looks = 0 }

-- the clock that a group has proposed for a request, as far as this group has heard
abbrev pub heard : GroupState → RequestId → ℕ → Option ℕ
heard grp i g = get grp.proposals (record { id = i; from = g })

abbrev pub or_zero : Option ℕ → ℕ
or_zero None = 0
or_zero (Some n) = n

-- the group's own proposal
abbrev pub own_at : ℕ → GroupState → RequestId → Stamp
own_at me grp i = record { clock = or_zero (heard grp i me); group = me }

-- ---- what is past

abbrev pub is_up_to : Option ℕ → ℕ → Bool
is_up_to None n = false
is_up_to (Some m) n = nat_le n m

-- this request of its connection, or a later one, was delivered here
abbrev pub is_past : GroupState → RequestId → Bool
is_past grp i = is_up_to (get grp.reached i.conn.0) i.seq

-- the numbers once these are delivered
abbrev pub reached_by : FinMap nat_cmp ℕ → List Delivered → FinMap nat_cmp ℕ
reached_by reached [] = reached
reached_by reached (d ∷ ds) =
    reached_by (insert reached d.id.conn.0 (max (or_zero (get reached d.id.conn.0)) d.id.seq)) ds

abbrev pub reaching : GroupState → List Delivered → GroupState
reaching grp ds = record grp { reached = reached_by grp.reached ds }

-- ---- the state once the packet is added

-- the clock of the next own proposal
abbrev pub next_clock : GroupState → ℕ → ℕ
next_clock grp floor = suc (max grp.clock floor)

abbrev pub with_start : ℕ → GroupState → RequestId → ℕ → List ℕ → GroupState
with_start me grp id floor groups = record grp {
  clock = next_clock grp floor;
  started = insert grp.started id groups;
  proposals = insert grp.proposals (record { id = id; from = me }) (next_clock grp floor);
}

abbrev pub with_proposal : GroupState → RequestId → ℕ → ℕ → GroupState
with_proposal grp id from n = record grp { proposals = insert grp.proposals (record { id = id; from = from }) n }

abbrev pub final_of : GroupState → RequestId → Option (List ℕ) → Option Stamp
final_of grp i None = None
final_of grp i (Some groups) = final (heard grp i) groups

abbrev pub lift : ℕ → Option Stamp → ℕ
lift c None = c
lift c (Some s) = max c s.clock

-- the clock is at least that of the request's final stamp, where that is known
abbrev pub lifted : GroupState → RequestId → GroupState
lifted grp id = record grp { clock = lift grp.clock (final_of grp id (get grp.started id)) }

-- ---- what is delivered

-- it is settled, and below the group's own proposal of each started request that isn't
pub record MayGo (me : ℕ) (grp : GroupState) (d : Delivered) : Type 0 where
  pub started : get grp.started d.id ≡ Some d.groups
  pub stamp : final (heard grp d.id) d.groups ≡ Some d.stamp
  pub below : (u : RequestId) (groups : List ℕ) → get grp.started u ≡ Some groups → final (heard grp u) groups ≡ None →
      stamp_lt d.stamp (own_at me grp u) ≡ true

-- each stamp is below each later one
abbrev pub Ascending : List Delivered → Type 0
Ascending [] = Unit {0}
Ascending (d ∷ ds) = ((e : Delivered) → In e ds → stamp_lt d.stamp e.stamp ≡ true) × Ascending ds

-- these are delivered, and no others
pub record Delivers (me : ℕ) (grp : GroupState) (ds : List Delivered) : Type 0 where
  pub ascending : Ascending ds
  pub only : (d : Delivered) → In d ds → MayGo me grp d
  pub all : (d : Delivered) → MayGo me grp d → In d ds

abbrev pub has_id : List Delivered → RequestId → Bool
has_id [] i = false
has_id (d ∷ ds) i = same_id d.id i || has_id ds i

-- the group forgets what it delivered
abbrev pub without : GroupState → List Delivered → GroupState
without grp ds = record grp {
  started = retain_keys grp.started (λ i. not (has_id ds i));
  proposals = retain_keys grp.proposals (λ s. not (has_id ds s.id));
}

-- from this state the group delivers these, and then has that state
pub record Delivering (me : ℕ) (grp : GroupState) (ds : List Delivered) (new : GroupState) : Type 0 where
  pub delivers : Delivers me grp ds
  pub after : new ≡ without grp ds

-- ---- a packet

-- the proposal, sent to the other groups in their order
abbrev pub tell : ℕ → RequestId → ℕ → List ℕ → List Packet
tell me id n [] = []
tell me id n (g ∷ gs) =
    cond (g == me) (tell me id n gs) (record { to = g; id = id; body = Proposal me n } ∷ tell me id n gs)

-- a Start of a request that is started already changes nothing
abbrev pub ReceivesStart : Option (List ℕ) → ℕ → GroupState → RequestId → ℕ → List ℕ → List Packet → List Delivered → GroupState → Type 0
ReceivesStart (Some _) me grp id floor groups sent ds new = (sent ≡ []) × (ds ≡ []) × (new ≡ grp)
ReceivesStart None me grp id floor groups sent ds new =
    (sent ≡ tell me id (next_clock grp floor) groups) × Delivering me (lifted (with_start me grp id floor groups) id) ds new

-- how the groups of a request agree on its stamp: on this packet about it the group sends and delivers this, and then has
-- that state, but for what it has reached
abbrev pub Agrees : ℕ → GroupState → RequestId → Body → List Packet → List Delivered → GroupState → Type 0
Agrees me grp id (Start floor groups) sent ds new =
    ReceivesStart (get grp.started id) me grp id floor groups sent ds new
Agrees me grp id (Proposal from n) sent ds new =
    (sent ≡ []) × Delivering me (lifted (with_proposal grp id from n) id) ds new

-- the receipt of that packet, as a group sees it
pub record IsReceipt (old : GroupView) (id : RequestId) (body : Body) (sent : List Packet) (ds : List Delivered) (new : GroupView)
    : Type 0 where
  pub me : new.me ≡ old.me
  pub rule : Agrees old.me old.state id body sent ds new.state
  pub few : length ds ≤ len old.state.started + 1
  pub least : length ds ≤ new.looks
  pub most : new.looks ≤ length ds + 2

-- a packet of a request that is past changes nothing
abbrev pub ReceivesUnless : Bool → ℕ → GroupState → RequestId → Body → List Packet → List Delivered → GroupState → Type 0
ReceivesUnless true me grp id body sent ds new = (sent ≡ []) × (ds ≡ []) × (new ≡ grp)
ReceivesUnless false me grp id body sent ds new = (mid : GroupState) × Agrees me grp id body sent ds mid × (new ≡ reaching mid ds)

-- the group's rule: on this packet about the request it sends and delivers this, and then has that state
abbrev pub Receives : ℕ → GroupState → RequestId → Body → List Packet → List Delivered → GroupState → Type 0
Receives me grp id body sent ds new = ReceivesUnless (is_past grp id) me grp id body sent ds new

-- ---- what may come

-- a Start names this group; a Proposal comes from another group, with a stamp that this group has for no other request,
-- and that it has for this request if it has one from there
abbrev pub BodyMayCome : ℕ → GroupState → RequestId → Body → Type 0
BodyMayCome me grp id (Start floor groups) = (has groups me ≡ true) × (floor ≤ GREATEST_CLOCK)
BodyMayCome me grp id (Proposal from n) =
    (from ≢ me) × (n ≤ GREATEST_CLOCK) × ((i : RequestId) → heard grp i from ≡ Some n → i ≡ id)
    × ((m : ℕ) → heard grp id from ≡ Some m → m ≡ n)

pub record MayCome (me : ℕ) (grp : GroupState) (p : Packet) : Type 0 where
  pub to : p.to ≡ me
  pub clock : grp.clock ≤ GREATEST_CLOCK
  pub body : BodyMayCome me grp p.id p.body

-- ---- what is kept

-- the request has started, or a proposal for it has come
abbrev pub IsKeptRequest : GroupState → RequestId → Type 0
IsKeptRequest grp i = IsSome (get grp.started i) ⊎ ((g : ℕ) × IsSome (heard grp i g))

abbrev pub EachOnce : List RequestId → Type 0
EachOnce [] = Unit {0}
EachOnce (i ∷ is) = (In i is → ⊥) × EachOnce is

-- n is the length of a list that has each request that is kept, once
pub record CountsKept (grp : GroupState) (n : ℕ) : Type 0 where
  pub ids : List RequestId
  pub once : EachOnce ids
  pub kept : (i : RequestId) → In i ids → IsKeptRequest grp i
  pub all : (i : RequestId) → IsKeptRequest grp i → In i ids
  pub count : length ids ≡ n
