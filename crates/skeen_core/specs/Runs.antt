-- What one group does with a list of packets, and what holds of every such run.
use Rattle.std.specs.Prelude.{◌≡◌, ℕ, ◌≤◌, ◌↔◌, ◌⊎◌, true, List, [], ◌∷◌, ◌++◌, Some, None, IsSome}
use Rattle.std.specs.FinMap.{get}
use Rattle.groups.specs.Order.{In}
use Rattle.groups.specs.Stamp.{final}
use Rattle.skeen_core.specs.Group.{GroupState, fresh, heard, is_past, Ascending, Receives, MayCome}
use Rattle.groups.specs.declared.stamp.Stamp.{Stamp}
use Rattle.groups.specs.declared.request.RequestId.{RequestId}
use Rattle.skeen_core.specs.declared.packet.Packet.{Packet}
use Rattle.skeen_core.specs.declared.packet.Body.{Body}
use Rattle.skeen_core.specs.declared.packet.Body.TheVariants.{Start, Proposal}
use Rattle.skeen_core.specs.declared.packet.Delivered.{Delivered}

-- a packet, with what the group sent and delivered on it
pub record Receipt : Type 0 where
  pub packet : Packet
  pub sent : List Packet
  pub delivered : List Delivered

-- the group receives these packets in turn, each of which may come
abbrev pub ReceivesInTurn : ℕ → GroupState → List Receipt → GroupState → Type 0
ReceivesInTurn me old [] new = new ≡ old
ReceivesInTurn me old (r ∷ rs) new =
    (mid : GroupState) × MayCome me old r.packet
    × Receives me old r.packet.id r.packet.body r.sent r.delivered mid × ReceivesInTurn me mid rs new

-- all that was delivered, oldest first
abbrev pub log : List Receipt → List Delivered
log [] = []
log (r ∷ rs) = r.delivered ++ log rs

-- ---- the laws

abbrev pub ClockNeverFalls : Type 0
ClockNeverFalls = (me : ℕ) (old new : GroupState) (rs : List Receipt) → ReceivesInTurn me old rs new → old.clock ≤ new.clock

abbrev pub TellsAtMost : ℕ → Body → Type 0
TellsAtMost c (Start floor groups) = Unit {0}
TellsAtMost c (Proposal from n) = n ≤ c

-- the clock is at least that of each stamp that the group told, keeps as its own, has settled, or has delivered
pub record IsAboveStamps (me : ℕ) (grp : GroupState) (rs : List Receipt) : Type 0 where
  pub told : (r : Receipt) (p : Packet) → In r rs → In p r.sent → TellsAtMost grp.clock p.body
  pub proposed : (i : RequestId) (n : ℕ) → heard grp i me ≡ Some n → n ≤ grp.clock
  pub settled : (i : RequestId) (gs : List ℕ) (s : Stamp) → get grp.started i ≡ Some gs →
      final (heard grp i) gs ≡ Some s → s.clock ≤ grp.clock
  pub delivered : (d : Delivered) → In d (log rs) → d.stamp.clock ≤ grp.clock

abbrev pub ClockIsAboveStamps : Type 0
ClockIsAboveStamps = (me : ℕ) (rs : List Receipt) (new : GroupState) → ReceivesInTurn me fresh rs new → IsAboveStamps me new rs

-- each stamp is below each later one, over all that the group delivers
abbrev pub DeliveriesAscend : Type 0
DeliveriesAscend = (me : ℕ) (rs : List Receipt) (new : GroupState) → ReceivesInTurn me fresh rs new → Ascending (log rs)

-- nothing is kept of what was delivered
abbrev pub DeliveredIsForgotten : Type 0
DeliveredIsForgotten =
    (me : ℕ) (old new : GroupState) (id : RequestId) (body : Body) (sent : List Packet) (ds : List Delivered)
    → Receives me old id body sent ds new →
    (d : Delivered) → In d ds → (get new.started d.id ≡ None) × ((g : ℕ) → heard new d.id g ≡ None)

-- this request of its connection, or a later one, is among these
abbrev pub HasReached : List Delivered → RequestId → Type 0
HasReached ds i = (d : Delivered) × In d ds × (d.id.conn.0 ≡ i.conn.0) × (i.seq ≤ d.id.seq)

-- a request is past just where it, or a later one of its connection, was delivered
abbrev pub PastIsReached : Type 0
PastIsReached = (me : ℕ) (rs : List Receipt) (new : GroupState) → ReceivesInTurn me fresh rs new → (i : RequestId) →
    (is_past new i ≡ true) ↔ HasReached (log rs) i

-- the group has that Start or that Proposal already
abbrev pub HasHeard : GroupState → RequestId → Body → Type 0
HasHeard grp id (Start floor groups) = IsSome (get grp.started id)
HasHeard grp id (Proposal from n) = heard grp id from ≡ Some n

-- so it has, or the request is past
abbrev pub IsRepeat : GroupState → RequestId → Body → Type 0
IsRepeat grp id body = (is_past grp id ≡ true) ⊎ HasHeard grp id body

abbrev pub RepeatsChangeNothing : Type 0
RepeatsChangeNothing =
    (me : ℕ) (rs : List Receipt) (old new : GroupState) (id : RequestId) (body : Body) (sent : List Packet) (ds : List Delivered) →
    ReceivesInTurn me fresh rs old → IsRepeat old id body → Receives me old id body sent ds new → (sent ≡ []) × (ds ≡ []) × (new ≡ old)

-- the rule leaves no choice
abbrev pub RuleDetermines : Type 0
RuleDetermines =
    (me : ℕ) (old new new' : GroupState) (id : RequestId) (body : Body) (sent sent' : List Packet) (ds ds' : List Delivered) →
    Receives me old id body sent ds new → Receives me old id body sent' ds' new' → (sent ≡ sent') × (ds ≡ ds') × (new ≡ new')
