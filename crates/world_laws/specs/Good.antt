-- What every world is like that a history of steps gives. Each record speaks of the parts of a world that it needs,
-- so that a step which leaves these parts as they are keeps it.
use Rattle.std.specs.FinMap.{get, empty}
use Rattle.std.specs.Prelude.{◌≡◌, ℕ, ◌<◌, ◌≤◌, ◌↔◌, true, List, [], ◌∷◌, ◌++◌, ◌⊎◌, Option, Some, None, IsSome}
use Rattle.groups.specs.GroupSet.{has}
use Rattle.keyspace.specs.Map.{Map}
use Rattle.placement.specs.Layout.{Layout}
use Rattle.skeen_core.proofs.Ahead.{Going}
use Rattle.skeen_core.specs.Group.{GroupState, heard, is_past}
use Rattle.skeen_core.specs.Runs.{HasReached}
use Rattle.resp.specs.Content.{Content}
use Rattle.groups.specs.Order.{In}
use Rattle.groups.specs.Stamp.{stamp_lt, final}
use Rattle.skeen_core.specs.declared.packet.Body.{Body}
use Rattle.skeen_core.specs.declared.packet.Body.TheVariants.{Start, Proposal}
use Rattle.skeen_core.specs.declared.packet.Delivered.{Delivered}
use Rattle.skeen_core.specs.declared.packet.Packet.{Packet}
use Rattle.groups.specs.declared.request.RequestId.{RequestId}
use Rattle.groups.specs.declared.stamp.Stamp.{Stamp}
use Rattle.sessions.specs.declared.session.Session.{Session}
use Rattle.sessions.specs.declared.session.Session.TheVariants.{Free}
use Rattle.tasks.specs.Tasks.{Task, task_groups, deed_effect, deed_of}
use Rattle.world.specs.Steps.{map_after, after_all, outcome_of}
use Rattle.world.specs.World.{World, Request, Outcome, Standing, Closed, Waiting, Answered, Ended, Layer, NoneTaken, Taken, HasRun}
use Rattle.world.specs.World.{Proposals}

-- ---- words

-- the relation holds of each element and each later one
abbrev pub Rising : {X : Type 0} → (X → X → Type 0) → List X → Type 0
Rising R [] = Unit {0}
Rising {X} R (x ∷ xs) = ((y : X) → In y xs → R x y) × Rising R xs

abbrev pub Asked : Type 0
Asked = RequestId → Option Request

-- the request was submitted, to these groups
abbrev pub Addressed : Asked → RequestId → List ℕ → Type 0
Addressed asked id groups = (q : Request) × (asked id ≡ Some q) × (q.groups ≡ groups)

-- the request was submitted to these groups, and the stamp is its final one
pub record Known (asked : Asked) (proposed : Proposals) (d : Delivered) : Type 0 where
  pub stamp : final (proposed d.id) d.groups ≡ Some d.stamp
  pub named : Addressed asked d.id d.groups

-- what the one tells the other tells too
abbrev pub Among : Proposals → Proposals → Type 0
Among f g = (i : RequestId) (h n : ℕ) → f i h ≡ Some n → g i h ≡ Some n

-- ---- groups and packets

-- what a group has delivered, oldest first
abbrev pub log_of : World → ℕ → List Delivered
log_of w g = w.gone g ++ w.queue g

-- one of these has the id
abbrev pub IsOut : List Delivered → RequestId → Type 0
IsOut ds i = (d : Delivered) × In d ds × (d.id ≡ i)

pub record GroupGood (asked : Asked) (proposed : Proposals) (me : ℕ) (grp : GroupState)
    (log : List Delivered) : Type 0 where
  -- it is as the rule of one group leaves it, and has delivered in ascending order
  pub going : Going me grp log
  pub heard : Among (heard grp) proposed
  pub clock : (i : RequestId) (n : ℕ) → proposed i me ≡ Some n → n ≤ grp.clock
  pub apart : (i j : RequestId) (n : ℕ) → proposed i me ≡ Some n → proposed j me ≡ Some n → i ≡ j
  pub started : (i : RequestId) (gs : List ℕ) → get grp.started i ≡ Some gs → Addressed asked i gs
  -- it has reached what it has delivered
  pub past : (i : RequestId) → (is_past grp i ≡ true) ↔ HasReached log i
  -- a request for which the group has proposed is started there, or was delivered
  pub begun : (i : RequestId) (n : ℕ) → proposed i me ≡ Some n → IsSome (get grp.started i) ⊎ IsOut log i
  pub known : (d : Delivered) → In d log → Known asked proposed d
  pub member : (d : Delivered) → In d log → has d.groups me ≡ true

-- a packet goes to a group of its request; a Start is as the request was submitted, a Proposal as another of its
-- groups has proposed
abbrev pub BodyGood : Asked → Proposals → ℕ → RequestId → Body → Type 0
BodyGood asked proposed to id (Start floor groups) =
    ((q : Request) × (asked id ≡ Some q) × (q.floor ≡ floor) × (q.groups ≡ groups)) × (has groups to ≡ true)
BodyGood asked proposed to id (Proposal from n) =
    (proposed id from ≡ Some n) × (from ≡ to → ⊥) × ((q : Request) × (asked id ≡ Some q) × (has q.groups to ≡ true))

abbrev pub PacketGood : Asked → Proposals → Packet → Type 0
PacketGood asked proposed p = BodyGood asked proposed p.to p.id p.body

-- the Start of the request that goes to the group
abbrev pub start_to : ℕ → RequestId → Request → Packet
start_to g i q = record { to = g; id = i; body = Start q.floor q.groups }

pub record SkeenGood (asked : Asked) (proposed : Proposals) (packets : List Packet) (group : ℕ → GroupState)
    (log : ℕ → List Delivered) : Type 0 where
  pub sent : (p : Packet) → In p packets → PacketGood asked proposed p
  -- each addressed group has a Start of the request coming, or has proposed
  pub coming : (i : RequestId) (q : Request) (g : ℕ) → asked i ≡ Some q → has q.groups g ≡ true →
      In (start_to g i q) packets ⊎ IsSome (proposed i g)
  -- a group proposes for a request that addresses it, above the request's floor
  pub made : (i : RequestId) (g n : ℕ) → proposed i g ≡ Some n →
      (q : Request) × (asked i ≡ Some q) × (q.floor < n) × (has q.groups g ≡ true)
  pub groups : (g : ℕ) → GroupGood asked proposed g (group g) (log g)

-- ---- submitted requests

-- the request addresses the groups of its task, and some group
pub record ShapedFor (t : Layout) (q : Request) : Type 0 where
  pub groups : task_groups t q.task ≡ q.groups
  pub some : (g : ℕ) × (has q.groups g ≡ true)

-- the request's final stamp is known, and its clock is at most n
abbrev pub Under : Proposals → RequestId → List ℕ → ℕ → Type 0
Under proposed id groups n = (s : Stamp) × (final (proposed id) groups ≡ Some s) × (s.clock ≤ n)

pub record AskedGood (t : Layout) (asked : Asked) (proposed : Proposals) (seq : ℕ → ℕ)
    (last : ℕ → Option RequestId) : Type 0 where
  pub shaped : (i : RequestId) (q : Request) → asked i ≡ Some q → ShapedFor t q
  pub fresh : (i : RequestId) (q : Request) → asked i ≡ Some q → (0 < i.seq) × (i.seq ≤ seq i.conn.0)
  pub lasts : (c : ℕ) (i : RequestId) → last c ≡ Some i → (i.conn.0 ≡ c) × ((q : Request) × (asked i ≡ Some q))
  pub latest : (i : RequestId) (q : Request) → asked i ≡ Some q → (l : RequestId) × (last i.conn.0 ≡ Some l)
      × (i.seq ≤ l.seq)
  -- a request's floor is at least the final clock of each earlier one of its connection
  pub floors : (i j : RequestId) (q r : Request) → i.conn.0 ≡ j.conn.0 → i.seq < j.seq → asked i ≡ Some q →
      asked j ≡ Some r →
      Under proposed i q.groups r.floor

-- ---- requests that a layer took

abbrev pub delivered_of : Ended → Delivered
delivered_of e = record { id = e.id; stamp = e.stamp; groups = e.groups }

abbrev pub all_delivered : List Ended → List Delivered
all_delivered [] = []
all_delivered (e ∷ es) = delivered_of e ∷ all_delivered es

-- what is taken and not run
abbrev pub taken_in : Layer → List Delivered
taken_in NoneTaken = []
taken_in (Taken ds) = ds
taken_in (HasRun es) = []

-- what was run and is not settled
abbrev pub run_in : Layer → List Ended
run_in NoneTaken = []
run_in (Taken ds) = []
run_in (HasRun es) = es

-- all that was ever taken, in the order of running
abbrev pub all_taken : List Ended → Layer → List Delivered
all_taken ended layer = all_delivered ended ++ taken_in layer

-- where two share a group, the one before has the smaller stamp
abbrev pub Touching : Delivered → Delivered → Type 0
Touching d e = (g : ℕ) → has d.groups g ≡ true → has e.groups g ≡ true → stamp_lt d.stamp e.stamp ≡ true

pub record TakenGood (asked : Asked) (proposed : Proposals) (gone : ℕ → List Delivered)
    (all : List Delivered) : Type 0 where
  pub known : (d : Delivered) → In d all → Known asked proposed d
  pub passed : (d : Delivered) → In d all → (g : ℕ) → has d.groups g ≡ true → In d (gone g)
  pub order : Rising Touching all

-- ---- connections

-- one of these has the id
abbrev pub Named : List Ended → RequestId → Type 0
Named es i = (e : Ended) × In e es × (e.id ≡ i)

-- each request has ended that its connection asked before another
abbrev pub EarlierEnded : Asked → List Ended → Type 0
EarlierEnded asked ended = (i j : RequestId) (q r : Request) → i.conn.0 ≡ j.conn.0 → i.seq < j.seq → asked i ≡ Some q →
    asked j ≡ Some r → Named ended i

-- a request that is past at one of its groups was delivered there
abbrev pub PastIsOut : Asked → (ℕ → GroupState) → (ℕ → List Delivered) → Type 0
PastIsOut asked group log = (i : RequestId) (q : Request) (g : ℕ) → asked i ≡ Some q → has q.groups g ≡ true →
    is_past (group g) i ≡ true → IsOut (log g) i

-- its connection waits for it, and has submitted no other since; or it was closed
abbrev pub Pending : (ℕ → Standing) → (ℕ → ℕ) → RequestId → Type 0
Pending standing seq i = (standing i.conn.0 ≡ Closed) ⊎ ((standing i.conn.0 ≡ Waiting) × (i.seq ≡ seq i.conn.0))

-- an outcome that waits is that of the connection's last request; with a stamp it is what came of a request that was
-- run
pub record OutcomeGood (seq : ℕ → ℕ) (ended : List Ended) (c : ℕ) (o : Outcome) : Type 0 where
  pub conn : o.id.conn.0 ≡ c
  pub latest : o.id.seq ≡ seq c
  pub from : (o.stamp ≡ None) ⊎ ((e : Ended) × In e ended × (o ≡ outcome_of e))

pub record ConnectionsGood (opened : ℕ) (standing : ℕ → Standing) (seq : ℕ → ℕ) (last : ℕ → Option RequestId)
    (asked : Asked) (ended : List Ended) (layer : Layer) : Type 0 where
  pub unopened : (c : ℕ) → opened < c → (standing c ≡ Closed) × (seq c ≡ 0) × (last c ≡ None)
  -- what was settled, and what was run since
  pub settled : List Ended
  pub split : ended ≡ settled ++ run_in layer
  pub pending : (i : RequestId) (q : Request) → asked i ≡ Some q → Named settled i ⊎ Pending standing seq i
  pub outcomes : (c : ℕ) (o : Outcome) → standing c ≡ Answered o → OutcomeGood seq ended c o

-- a connection that wasn't opened remembers nothing
abbrev pub SessionsGood : ℕ → (ℕ → Session) → Type 0
SessionsGood opened session = (c : ℕ) → opened < c → session c ≡ Free

-- ---- what was run

-- what a task is answered on this map, where it is executed and just those of its members starve that the reply tells
abbrev pub AnswersOn : Map → Task → Content → Type 0
AnswersOn m task reply = reply ≡ (deed_effect (deed_of task reply) m).1

-- it starved as a whole, or its reply is what its task is answered on this map
abbrev pub RepliesOn : Map → Ended → Type 0
RepliesOn m e = (e.reply ≡ None) ⊎ ((reply : Content) × (e.reply ≡ Some reply) × AnswersOn m e.task reply)

-- the replies are those of the tasks run one after another from this map
abbrev pub RepliesInTurn : Map → List Ended → Type 0
RepliesInTurn m [] = Unit {0}
RepliesInTurn m (e ∷ es) = RepliesOn m e × RepliesInTurn (map_after e.reply e.task m) es

pub record RunGood (asked : Asked) (ended : List Ended) (contents : Map) : Type 0 where
  pub tasks : (e : Ended) → In e ended → (q : Request) × (asked e.id ≡ Some q) × (e.task ≡ q.task)
  pub replies : RepliesInTurn empty ended
  pub map : contents ≡ after_all empty ended

-- ---- the whole

pub record WorldGood (t : Layout) (w : World) : Type 0 where
  pub skeen : SkeenGood w.asked w.proposed w.packets w.group (log_of w)
  pub requests : AskedGood t w.asked w.proposed w.seq w.last
  pub taken : TakenGood w.asked w.proposed w.gone (all_taken w.ended w.layer)
  pub connections : ConnectionsGood w.opened w.standing w.seq w.last w.asked w.ended w.layer
  pub sessions : SessionsGood w.opened w.session
  pub earlier : EarlierEnded w.asked w.ended
  pub past : PastIsOut w.asked w.group (log_of w)
  pub run : RunGood w.asked w.ended w.contents

-- after n steps no number is above n
pub record Bounded (w : World) (n : ℕ) : Type 0 where
  pub clocks : (g : ℕ) → (w.group g).clock ≤ n
  pub floors : (i : RequestId) (q : Request) → w.asked i ≡ Some q → q.floor ≤ n
  pub connections : w.opened ≤ n
  pub requests : (c : ℕ) → w.seq c ≤ n
