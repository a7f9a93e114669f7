-- The laws of order, for every history of steps.
use Rattle.std.specs.FinMap.{get}
use Rattle.std.specs.Prelude.{◌≡◌, ℕ, ◌<◌, ◌≤◌, true, false, List, [], ◌∷◌, ◌++◌, length, slice_get, map, ◌⊎◌, ◌↔◌, Some}
use Rattle.delivery.specs.Ready.{IsReady, IsLinedUp}
use Rattle.groups.specs.GroupSet.{has}
use Rattle.journal.specs.declared.step.Step.{Step}
use Rattle.journal.specs.declared.step.Step.TheVariants.{Deliver}
use Rattle.placement.specs.Layout.{Layout}
use Rattle.skeen_core.specs.Group.{heard, Ascending, EachOnce}
use Rattle.groups.specs.Order.{In}
use Rattle.groups.specs.Stamp.{stamp_lt, final}
use Rattle.skeen_core.specs.declared.packet.Delivered.{Delivered}
use Rattle.skeen_core.specs.declared.packet.Packet.{Packet}
use Rattle.groups.specs.declared.request.RequestId.{RequestId}
use Rattle.groups.specs.declared.stamp.Stamp.{Stamp}
use Rattle.tasks.specs.Tasks.{task_groups}
use Rattle.world.specs.Steps.{opening, Effect, Steps, Leads}
use Rattle.world.specs.World.{World, Request, Ended}
use Rattle.world_laws.specs.Good.{Rising, log_of}

-- it holds of every world that a history of steps gives
abbrev pub OfEveryWorld : (Layout → World → Type 0) → Type 0
OfEveryWorld P = (t : Layout) (steps : List Step) (w : World) → Leads t opening steps w → P t w

-- ---- final stamps

-- the request was submitted, and this is its final stamp: the greatest of the proposals that its groups have made
pub record HasFinal (w : World) (i : RequestId) (q : Request) (s : Stamp) : Type 0 where
  pub submitted : w.asked i ≡ Some q
  pub stamp : final (w.proposed i) q.groups ≡ Some s

-- the group knows that stamp as the request's final one: it has delivered the request with it, or has heard all its
-- proposals
pub record Settled (w : World) (g : ℕ) (i : RequestId) (s : Stamp) : Type 0 where
  pub groups : List ℕ
  pub started : get (w.group g).started i ≡ Some groups
  pub stamp : final (heard (w.group g) i) groups ≡ Some s

pub record DeliveredAs (w : World) (g : ℕ) (i : RequestId) (s : Stamp) : Type 0 where
  pub it : Delivered
  pub there : In it (log_of w g)
  pub id : it.id ≡ i
  pub stamp : it.stamp ≡ s

abbrev pub KnowsFinal : World → ℕ → RequestId → Stamp → Type 0
KnowsFinal w g i s = Settled w g i s ⊎ DeliveredAs w g i s

-- all groups of a request that know its final stamp know the same one
abbrev pub FinalsAgree : Layout → World → Type 0
FinalsAgree t w = (g : ℕ) (i : RequestId) (s : Stamp) → KnowsFinal w g i s →
    (q : Request) × (has q.groups g ≡ true) × HasFinal w i q s

abbrev pub GroupsAgree : Type 0
GroupsAgree = OfEveryWorld FinalsAgree

-- each group of a request with a final stamp has proposed, and not above it
abbrev pub FinalIsGreatest : Type 0
FinalIsGreatest = OfEveryWorld (λ t w. (i : RequestId) (q : Request) (s : Stamp) → HasFinal w i q s → (g : ℕ) →
    has q.groups g ≡ true →
    (n : ℕ) × (w.proposed i g ≡ Some n) × (stamp_lt s (record { clock = n; group = g }) ≡ false))

-- the final stamp is the proposal of one of the groups
abbrev pub FinalIsProposed : Type 0
FinalIsProposed = OfEveryWorld (λ t w. (i : RequestId) (q : Request) (s : Stamp) → HasFinal w i q s →
    (has q.groups s.group ≡ true) × (w.proposed i s.group ≡ Some s.clock))

-- no two requests have the same final stamp
abbrev pub FinalsDiffer : Layout → World → Type 0
FinalsDiffer t w = (i j : RequestId) (q r : Request) (s : Stamp) → HasFinal w i q s → HasFinal w j r s → i ≡ j

abbrev pub FinalStampsDiffer : Type 0
FinalStampsDiffer = OfEveryWorld FinalsDiffer

-- of two requests of one connection the later one has the larger stamp
abbrev pub ConnectionsRise : Layout → World → Type 0
ConnectionsRise t w = (i j : RequestId) (q r : Request) (s u : Stamp) → i.conn.0 ≡ j.conn.0 → i.seq < j.seq →
    HasFinal w i q s → HasFinal w j r u → stamp_lt s u ≡ true

abbrev pub StampsOfConnectionRise : Type 0
StampsOfConnectionRise = OfEveryWorld ConnectionsRise

-- ---- groups

-- a group's clock is at least that of each stamp that it has proposed or delivered
abbrev pub ClockIsAboveProposals : Type 0
ClockIsAboveProposals = OfEveryWorld (λ t w. (g : ℕ) (i : RequestId) (n : ℕ) → w.proposed i g ≡ Some n →
    n ≤ (w.group g).clock)

abbrev pub ClockIsAboveDeliveries : Type 0
ClockIsAboveDeliveries = OfEveryWorld (λ t w. (g : ℕ) (d : Delivered) → In d (log_of w g) →
    d.stamp.clock ≤ (w.group g).clock)

-- no clock is above the number of steps
abbrev pub ClocksAreBounded : Type 0
ClocksAreBounded = (t : Layout) (steps : List Step) (w : World) → Leads t opening steps w → (g : ℕ) →
    (w.group g).clock ≤ length steps

-- each group delivers in ascending order
abbrev pub DeliveriesAscend : Type 0
DeliveriesAscend = OfEveryWorld (λ t w. (g : ℕ) → Ascending (log_of w g))

-- ---- only the groups of a request do something for it

-- a request's groups are those of its task
abbrev pub GroupsAreOfTasks : Layout → World → Type 0
GroupsAreOfTasks t w = (i : RequestId) (q : Request) → w.asked i ≡ Some q → q.groups ≡ task_groups t q.task

abbrev pub AskedOfItsGroups : Type 0
AskedOfItsGroups = OfEveryWorld GroupsAreOfTasks

-- a packet goes to a group of its request
abbrev pub PacketsAreAddressed : Layout → World → Type 0
PacketsAreAddressed t w = (p : Packet) → In p w.packets →
    (q : Request) × (w.asked p.id ≡ Some q) × (has q.groups p.to ≡ true)

abbrev pub PacketsGoToAddressed : Type 0
PacketsGoToAddressed = OfEveryWorld PacketsAreAddressed

-- a group has delivered requests of its own alone
abbrev pub LogsAreAddressed : Layout → World → Type 0
LogsAreAddressed t w = (g : ℕ) (d : Delivered) → In d (log_of w g) → has d.groups g ≡ true

abbrev pub DeliveriesAreAddressed : Type 0
DeliveriesAreAddressed = OfEveryWorld LogsAreAddressed

-- the step brings a packet to the group
abbrev pub Brings : World → Step → ℕ → Type 0
Brings w (Deliver k) g = (p : Packet) × (slice_get w.packets k ≡ Some p) × (p.to ≡ g)
Brings w step g = ⊥

-- each group that it brings no packet to is the same afterwards, and has delivered the same
abbrev pub OthersAreKept : World → World → Step → Type 0
OthersAreKept old new step = (g : ℕ) → ¬ Brings old step g →
    (new.group g ≡ old.group g) × (log_of new g ≡ log_of old g)

-- a step changes no group but the one that it brings a packet to
abbrev pub OthersKeepStill : Type 0
OthersKeepStill = (t : Layout) (old new : World) (step : Step) (effect : Effect) → Steps t old step effect new →
    OthersAreKept old new step

-- ---- what is ready, and what is lined up

-- a layer has taken it
abbrev pub IsTaken : World → Delivered → Type 0
IsTaken w d = (g : ℕ) × In d (w.gone g)

-- it isn't taken, it has a group, each of its groups has delivered it, and all that was delivered there before it is
-- taken
pub record IsFirstAtEach (w : World) (d : Delivered) : Type 0 where
  pub somewhere : (g : ℕ) × (has d.groups g ≡ true)
  pub not_taken : ¬ IsTaken w d
  pub delivered : (g : ℕ) → has d.groups g ≡ true →
      (before after : List Delivered) × (log_of w g ≡ before ++ d ∷ after) × ((e : Delivered) → In e before → IsTaken w e)

-- that is what ready means
abbrev pub ReadyInWords : Layout → World → Type 0
ReadyInWords t w = (d : Delivered) → IsReady w.queue d ↔ IsFirstAtEach w d

abbrev pub ReadyIsFirst : Type 0
ReadyIsFirst = OfEveryWorld ReadyInWords

-- it isn't taken, it addresses one group alone, which has delivered it, and what was delivered there before it and isn't
-- taken addresses that group alone too
pub record IsBehindAlone (w : World) (d : Delivered) : Type 0 where
  pub group : ℕ
  pub alone : d.groups ≡ group ∷ []
  pub not_taken : ¬ IsTaken w d
  pub front : List Delivered
  pub rest : List Delivered
  pub delivered : log_of w group ≡ front ++ d ∷ rest
  pub before : (e : Delivered) → In e front → ¬ IsTaken w e → e.groups ≡ group ∷ []

-- that is what lined up means
abbrev pub LinedUpInWords : Layout → World → Type 0
LinedUpInWords t w = (d : Delivered) → IsLinedUp w.queue d ↔ IsBehindAlone w d

abbrev pub LinedUpIsBehindAlone : Type 0
LinedUpIsBehindAlone = OfEveryWorld LinedUpInWords

-- ---- what was run

abbrev pub ids_of : List Ended → List RequestId
ids_of es = map (λ e. e.id) es

-- each request ends at most once: it is executed, or it starves as a whole
abbrev pub EndedOnce : Layout → World → Type 0
EndedOnce t w = EachOnce (ids_of w.ended)

abbrev pub EndsOnce : Type 0
EndsOnce = OfEveryWorld EndedOnce

-- what ends was submitted so, and ends with its final stamp
abbrev pub EndedAsSubmitted : Layout → World → Type 0
EndedAsSubmitted t w = (e : Ended) → In e w.ended →
    (q : Request) × HasFinal w e.id q e.stamp × (e.task ≡ q.task) × (e.groups ≡ q.groups)

abbrev pub EndsAsSubmitted : Type 0
EndsAsSubmitted = OfEveryWorld EndedAsSubmitted

-- where two requests share a group, the one that ends before has the smaller stamp
abbrev pub TouchingByStamp : Ended → Ended → Type 0
TouchingByStamp d e = (g : ℕ) → has d.groups g ≡ true → has e.groups g ≡ true → stamp_lt d.stamp e.stamp ≡ true

abbrev pub TouchingInStampOrder : Layout → World → Type 0
TouchingInStampOrder t w = Rising TouchingByStamp w.ended

abbrev pub TouchingEndInStampOrder : Type 0
TouchingEndInStampOrder = OfEveryWorld TouchingInStampOrder

-- a step adds to what has ended and changes nothing of it
abbrev pub EndedIsKept : Type 0
EndedIsKept = (t : Layout) (old new : World) (step : Step) (effect : Effect) → Steps t old step effect new →
    (more : List Ended) × (new.ended ≡ old.ended ++ more)
