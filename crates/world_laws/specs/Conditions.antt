-- What the calls of a group, of its queue, of the shards and of the router ask of whoever calls them in these steps,
-- as far as the world says it.
use Rattle.std.specs.Prelude.{◌≡◌, ℕ, ◌≤◌, true, false, List, ◌∷◌, ◌++◌, ◌⊎◌, length, Some}
use Rattle.delivery.specs.Queues.{MayAppend, IsSound}
use Rattle.groups.specs.GroupSet.{has}
use Rattle.journal.specs.declared.step.Step.{Step}
use Rattle.placement.specs.Layout.{Layout}
use Rattle.skeen_core.specs.Group.{is_past, MayCome}
use Rattle.groups.specs.Order.{In}
use Rattle.groups.specs.Stamp.{stamp_lt}
use Rattle.skeen_core.specs.declared.packet.Delivered.{Delivered}
use Rattle.skeen_core.specs.declared.packet.Packet.{Packet}
use Rattle.tasks.specs.Tasks.{task_groups}
use Rattle.world.specs.Steps.{at, opening, Effect, floor_of, Comes, Steps, Leads}
use Rattle.world.specs.World.{World, Request, Standing, Closed, Idle, Waiting, Answered, Ended, Taken, HasRun}
use Rattle.world_laws.specs.Good.{Pending, Bounded, IsOut, log_of}
use Rattle.world_laws.specs.Order.{OfEveryWorld, HasFinal}
use Rattle.journal.specs.declared.trace.TheConstants.{GREATEST_STEPS}

-- ---- a group receives

-- each packet under way may come to its group
abbrev pub PacketsMayCome : Type 0
PacketsMayCome = (t : Layout) (steps : List Step) (w : World) → Leads t opening steps w → length steps ≤ GREATEST_STEPS →
    (p : Packet) → In p w.packets →
    MayCome p.to (w.group p.to) p

-- a packet of a request that its group hasn't delivered is heard: what a group leaves out are repeats
abbrev pub FreshIsHeard : Type 0
FreshIsHeard = OfEveryWorld (λ t w. (p : Packet) → In p w.packets → ¬ IsOut (log_of w p.to) p.id →
    is_past (w.group p.to) p.id ≡ false)

-- ---- a queue

-- the queues are as any queues are
abbrev pub QueuesAreSound : Type 0
QueuesAreSound = OfEveryWorld (λ t w. IsSound w.queue)

-- what a group delivers may be put behind its queue, one after another
abbrev pub DeliveriesMayAppend : Type 0
DeliveriesMayAppend = (t : Layout) (steps : List Step) (old new : World) (k : ℕ) (effect : Effect) →
    Leads t opening steps old → (comes : Comes old k effect new) →
    (front : List Delivered) (d : Delivered) (back : List Delivered) → comes.delivered ≡ front ++ d ∷ back →
    MayAppend (at old.queue comes.packet.to (old.queue comes.packet.to ++ front)) comes.packet.to d

-- ---- the shards

-- a layer's requests were submitted, to the groups of their tasks, and stand at their final stamps
abbrev pub LayersAreSubmitted : Type 0
LayersAreSubmitted = OfEveryWorld (λ t w. (layer : List Delivered) → w.layer ≡ Taken layer → (d : Delivered) →
    In d layer →
    (q : Request) × HasFinal w d.id q d.stamp × (d.groups ≡ task_groups t q.task))

-- and their stamps are above those of all that has ended at one of their groups
abbrev pub LayersAreAbove : Type 0
LayersAreAbove = OfEveryWorld (λ t w. (layer : List Delivered) → w.layer ≡ Taken layer → (d : Delivered) → In d layer →
    (e : Ended) → In e w.ended → (g : ℕ) → has e.groups g ≡ true → has d.groups g ≡ true →
    stamp_lt e.stamp d.stamp ≡ true)

-- ---- the router

-- the connection of each request that is settled waits for it, or was closed
abbrev pub SettledIsWaitedFor : Type 0
SettledIsWaitedFor = OfEveryWorld (λ t w. (outcomes : List Ended) → w.layer ≡ HasRun outcomes → (e : Ended) →
    In e outcomes → Pending w.standing w.seq e.id)

-- and it is the last of that connection's requests that addressed groups
abbrev pub SettledIsLast : Type 0
SettledIsLast = OfEveryWorld (λ t w. (outcomes : List Ended) → w.layer ≡ HasRun outcomes → (e : Ended) → In e outcomes →
    (w.standing e.id.conn.0 ≡ Closed) ⊎ (w.last e.id.conn.0 ≡ Some e.id))

-- once that one has ended, the clock of its final stamp is the connection's floor
abbrev pub FloorsAreFinal : Type 0
FloorsAreFinal = OfEveryWorld (λ t w. (c : ℕ) (e : Ended) → In e w.ended → w.last c ≡ Some e.id →
    floor_of w c ≡ e.stamp.clock)

-- the connection is open, and waits for no request
abbrev pub IsFree : Standing → Type 0
IsFree Closed = ⊥
IsFree Idle = Unit {0}
IsFree Waiting = ⊥
IsFree (Answered outcome) = Unit {0}

-- which stays as it is until it asks groups again
abbrev pub FloorsStay : Type 0
FloorsStay = (t : Layout) (steps : List Step) (old new : World) (step : Step) (effect : Effect) →
    Leads t opening steps old →
    Steps t old step effect new → (c : ℕ) → IsFree (old.standing c) → new.last c ≡ old.last c →
    floor_of new c ≡ floor_of old c

-- no number is above the number of steps
abbrev pub NumbersAreBounded : Type 0
NumbersAreBounded = (t : Layout) (steps : List Step) (w : World) → Leads t opening steps w → Bounded w (length steps)
