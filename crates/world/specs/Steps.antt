-- The nine kinds of step: when each is accepted, what it answers, and the world after it.
use Rattle.std.specs.FinMap.{get, empty}
use Rattle.std.specs.Prelude.{◌≡◌, ◌≢◌, ℕ, suc, ◌≤◌, cond, ◌&&◌, ◌==◌, List, [], ◌∷◌, ◌++◌, length, remove, slice_get}
use Rattle.std.specs.Prelude.{Option, Some, None}
use Rattle.delivery.specs.Ready.{IsReady, IsLayer, taken_from, left_in}
use Rattle.journal.specs.declared.step.Step.{Step}
use Rattle.journal.specs.declared.step.Step.TheVariants.{Open, Submit, Deliver, Take, Run, Settle, Collect, Close, Repeat}
use Rattle.keyspace.specs.Map.{Map}
use Rattle.placement.specs.Layout.{Layout}
use Rattle.resp.specs.Content.{Content, out_of_memory}
use Rattle.skeen_core.specs.Group.{GroupState, fresh, is_past, next_clock, Receives}
use Rattle.groups.specs.Request.{same_id}
use Rattle.groups.specs.Skips.{names_whole, parts_of}
use Rattle.groups.specs.Stamp.{final}
use Rattle.skeen_core.specs.declared.packet.Body.{Body}
use Rattle.skeen_core.specs.declared.packet.Body.TheVariants.{Start, Proposal}
use Rattle.skeen_core.specs.declared.packet.Delivered.{Delivered}
use Rattle.skeen_core.specs.declared.packet.Packet.{Packet}
use Rattle.groups.specs.declared.request.RequestId.{RequestId}
use Rattle.groups.specs.declared.skip_id.SkipId.{SkipId}
use Rattle.groups.specs.declared.stamp.Stamp.{Stamp}
use Rattle.sessions.specs.Session.{Answer, Now, Go, asks}
use Rattle.sessions.specs.declared.session.Session.{Session}
use Rattle.sessions.specs.declared.session.Session.TheVariants.{Free}
use Rattle.tasks.specs.Tasks.{Task, task_groups, deed_effect, deed_of, starved_names}
use Rattle.world.specs.World.{World, Request, Outcome, Standing, Closed, Idle, Waiting, Answered, Ended, Layer, NoneTaken, Taken, HasRun}
use Rattle.world.specs.World.{Proposals}

-- the function with one value changed
abbrev pub at : {X : Type 0} → (ℕ → X) → ℕ → X → ℕ → X
at f n x = λ m. cond (m == n) x (f m)

-- no connection, no packet, each group new, an empty map
abbrev pub opening : World
opening = record {
  opened = 0;
  standing = λ c. Closed;
  seq = λ c. 0;
  session = λ c. Free;
  last = λ c. None;
  asked = λ i. None;
  packets = [];
  group = λ g. fresh;
  proposed = λ i g. None;
  gone = λ g. [];
  queue = λ g. [];
  layer = NoneTaken;
  ended = [];
  contents = empty;
}

-- what a step answers
pub data Effect : Type 0 where
  Opened : ℕ → Effect
  Submitted : RequestId → Effect
  Ran : List SkipId → Effect
  Collected : Option Outcome → Effect
  Made : Effect

-- ---- Open: the next connection is opened

pub record Opens (old : World) (effect : Effect) (new : World) : Type 0 where
  pub answers : effect ≡ Opened (suc old.opened)
  pub after : new ≡ record old { opened = suc old.opened; standing = at old.standing (suc old.opened) Idle }

-- ---- Submit: an idle connection asks

-- the id of a connection's next request
abbrev pub next_id : World → ℕ → RequestId
next_id w c = record { conn = record { 0 = c }; seq = suc (w.seq c) }

abbrev pub clock_of : Option Stamp → ℕ
clock_of None = 0
clock_of (Some s) = s.clock

-- the clock of a request's final stamp, or 0
abbrev pub final_clock : Proposals → RequestId → Option Request → ℕ
final_clock proposed id None = 0
final_clock proposed id (Some r) = clock_of (final (proposed id) r.groups)

abbrev pub final_clock_of : World → Option RequestId → ℕ
final_clock_of w None = 0
final_clock_of w (Some i) = final_clock w.proposed i (w.asked i)

-- the floor of a connection's next request: the clock of the final stamp of its last one that addressed groups, or 0
abbrev pub floor_of : World → ℕ → ℕ
floor_of w c = final_clock_of w (w.last c)

-- one Start for each group
abbrev pub starts : RequestId → Request → List ℕ → List Packet
starts id r [] = []
starts id r (g ∷ gs) = record { to = g; id = id; body = Start r.floor r.groups } ∷ starts id r gs

abbrev pub with_asked : (RequestId → Option Request) → RequestId → Request → RequestId → Option Request
with_asked asked id r = λ i. cond (same_id i id) (Some r) (asked i)

-- the request goes to its groups
abbrev pub multicast : World → ℕ → Request → World
multicast w c r = record w {
  standing = at w.standing c Waiting;
  seq = at w.seq c (suc (w.seq c));
  last = at w.last c (Some (next_id w c));
  asked = with_asked w.asked (next_id w c) r;
  packets = w.packets ++ starts (next_id w c) r r.groups;
}

-- the request is answered at once, by no group
abbrev pub answered : World → ℕ → Content → World
answered w c reply = record w {
  standing = at w.standing c (Answered (record { id = next_id w c; reply = reply; stamp = None }));
  seq = at w.seq c (suc (w.seq c));
}

-- a task that addresses no group looks at no key: it is answered as on the empty map
abbrev pub submitted_to : World → ℕ → Task → List ℕ → World
submitted_to w c task [] = answered w c (deed_effect (task, []) empty).1
submitted_to w c task (g ∷ gs) = multicast w c (record { floor = floor_of w c; groups = g ∷ gs; task = task })

-- what comes of the words: they are answered, or a task is to be run
abbrev pub submitted : Layout → World → ℕ → Answer → World
submitted t w c (Now reply) = answered w c reply
submitted t w c (Go task) = submitted_to w c task (task_groups t task)

-- the connection remembers this
abbrev pub in_session : World → ℕ → Session → World
in_session w c session = record w { session = at w.session c session }

-- the connection's session says what comes of the words, and what the connection remembers then
abbrev pub answer_to : World → ℕ → List (List ℕ) → Answer
answer_to w c words = (asks (w.session c) words).1

abbrev pub remembered : World → ℕ → List (List ℕ) → World
remembered w c words = in_session w c (asks (w.session c) words).0

pub record Submits (t : Layout) (old : World) (c : ℕ) (words : List (List ℕ)) (effect : Effect)
    (new : World) : Type 0 where
  pub idle : old.standing c ≡ Idle
  pub answers : effect ≡ Submitted (next_id old c)
  pub after : new ≡ submitted t (remembered old c words) c (answer_to old c words)

-- ---- Deliver: a packet comes to its group

abbrev pub hears : Proposals → RequestId → ℕ → ℕ → Proposals
hears proposed id from n = λ i g. cond (same_id i id && g == from) (Some n) (proposed i g)

-- a group proposes once for a request, and never again once that is past
abbrev pub with_own : Option (List ℕ) → Proposals → RequestId → ℕ → ℕ → Proposals
with_own (Some groups) proposed id me n = proposed
with_own None proposed id me n = hears proposed id me n

-- the proposals, with the one that the group makes when it gets this
abbrev pub now_proposed : Proposals → ℕ → GroupState → RequestId → Body → Proposals
now_proposed proposed me grp id (Start floor groups) =
    cond (is_past grp id) proposed (with_own (get grp.started id) proposed id me (next_clock grp floor))
now_proposed proposed me grp id (Proposal from n) = proposed

-- The packet at a place has come to its group, which does with it what the group's rule says. What it sends goes
-- behind all that is under way, and what it delivers behind its queue.
abbrev pub received : World → ℕ → Packet → List Packet → List Delivered → GroupState → World
received w k p sent ds state = record w {
  packets = remove w.packets k ++ sent;
  group = at w.group p.to state;
  proposed = now_proposed w.proposed p.to (w.group p.to) p.id p.body;
  queue = at w.queue p.to (w.queue p.to ++ ds);
}

pub record Comes (old : World) (k : ℕ) (effect : Effect) (new : World) : Type 0 where
  pub packet : Packet
  pub sent : List Packet
  pub delivered : List Delivered
  pub state : GroupState
  pub there : slice_get old.packets k ≡ Some packet
  pub receives : Receives packet.to (old.group packet.to) packet.id packet.body sent delivered state
  pub answers : effect ≡ Made
  pub after : new ≡ received old k packet sent delivered state

-- ---- Repeat: a link repeats a packet, and the copy goes behind all that is under way

pub record Repeats (old : World) (k : ℕ) (effect : Effect) (new : World) : Type 0 where
  pub packet : Packet
  pub there : slice_get old.packets k ≡ Some packet
  pub answers : effect ≡ Made
  pub after : new ≡ record old { packets = old.packets ++ packet ∷ [] }

-- ---- Take: all requests that are ready or lined up are taken as a layer

abbrev pub taken : World → List Delivered → World
taken w ds = record w {
  gone = λ g. w.gone g ++ taken_from ds (w.queue g);
  queue = λ g. left_in ds (w.queue g);
  layer = Taken ds;
}

pub record Takes (old : World) (effect : Effect) (new : World) : Type 0 where
  pub layer : List Delivered
  pub free : old.layer ≡ NoneTaken
  pub ready : IsLayer old.queue layer
  pub some : layer ≢ []
  pub answers : effect ≡ Made
  pub after : new ≡ taken old layer

-- ---- Run: the layer that was taken is run, but for those that starve

-- what a task that was answered so has done to the map: nothing, where it starved as a whole and has no reply
abbrev pub map_after : Option Content → Task → Map → Map
map_after None task m = m
map_after (Some reply) task m = (deed_effect (deed_of task reply) m).0

abbrev pub after_all : Map → List Ended → Map
after_all m [] = m
after_all m (e ∷ es) = after_all (map_after e.reply e.task m) es

-- how a request of the layer ends on this map: it starves as a whole where it is named so, or else is executed, and those of its
-- members starve that are named
abbrev pub ended_as : List SkipId → Map → Delivered → Task → Ended
ended_as starved m d task = record {
  id = d.id;
  stamp = d.stamp;
  groups = d.groups;
  task = task;
  reply = cond (names_whole starved d.id) None (Some (deed_effect (task, parts_of starved d.id) m).1);
}

-- the layer's requests, one after another on the map: each ends so
abbrev pub RunInTurn : (RequestId → Option Request) → List SkipId → Map → List Delivered → List Ended → Type 0
RunInTurn asked starved m [] es = es ≡ []
RunInTurn asked starved m (d ∷ ds) [] = ⊥
RunInTurn asked starved m (d ∷ ds) (e ∷ es) =
    ((r : Request) × (asked d.id ≡ Some r) × (e ≡ ended_as starved m d r.task))
    × RunInTurn asked starved (map_after e.reply e.task m) ds es

-- the names of what starved: of requests as a whole, and of members of those that were executed
abbrev pub starved_among : List Ended → List SkipId
starved_among [] = []
starved_among (e ∷ es) = starved_names e.id e.task e.reply ++ starved_among es

pub record RunsLayer (old : World) (starved : List SkipId) (effect : Effect) (new : World) : Type 0 where
  pub layer : List Delivered
  pub outcomes : List Ended
  pub there : old.layer ≡ Taken layer
  pub in_turn : RunInTurn old.asked starved old.contents layer outcomes
  pub answers : effect ≡ Ran (starved_among outcomes)
  pub after : new ≡ record old {
    layer = HasRun outcomes;
    ended = old.ended ++ outcomes;
    contents = after_all old.contents outcomes;
  }

-- ---- Settle: the layer's outcomes go to their connections

-- a request that starved as a whole is answered that there was no memory
abbrev pub reply_of : Option Content → Content
reply_of None = out_of_memory
reply_of (Some reply) = reply

abbrev pub outcome_of : Ended → Outcome
outcome_of e = record { id = e.id; reply = reply_of e.reply; stamp = Some e.stamp }

-- a closed connection gets nothing
abbrev pub given : Outcome → Standing → Standing
given outcome Closed = Closed
given outcome standing = Answered outcome

abbrev pub settled : List Ended → (ℕ → Standing) → ℕ → Standing
settled [] standing = standing
settled (e ∷ es) standing = settled es (at standing e.id.conn.0 (given (outcome_of e) (standing e.id.conn.0)))

pub record Settles (old : World) (effect : Effect) (new : World) : Type 0 where
  pub outcomes : List Ended
  pub there : old.layer ≡ HasRun outcomes
  pub answers : effect ≡ Made
  pub after : new ≡ record old { standing = settled outcomes old.standing; layer = NoneTaken }

-- ---- Collect: a connection takes the outcome that waits for it, if one does

abbrev pub Collects : Standing → World → ℕ → Effect → World → Type 0
Collects Closed old c effect new = ⊥
Collects Idle old c effect new = (effect ≡ Collected None) × (new ≡ old)
Collects Waiting old c effect new = (effect ≡ Collected None) × (new ≡ old)
Collects (Answered outcome) old c effect new = (effect ≡ Collected (Some outcome))
    × (new ≡ record old { standing = at old.standing c Idle })

-- ---- Close: a connection is closed, and what it waits for will be dropped

pub record Closes (old : World) (c : ℕ) (effect : Effect) (new : World) : Type 0 where
  pub is_open : old.standing c ≢ Closed
  pub answers : effect ≡ Made
  pub after : new ≡ record old { standing = at old.standing c Closed }

-- ---- all of them

-- In the world old the step is accepted; it answers so, and new is the world after it. A Run is told which requests starve, and
-- which members of requests; what isn't in the layer adds nothing.
abbrev pub Steps : Layout → World → Step → Effect → World → Type 0
Steps t old Open effect new = Opens old effect new
Steps t old (Submit conn words) effect new = Submits t old conn.0 words effect new
Steps t old (Deliver k) effect new = Comes old k effect new
Steps t old Take effect new = Takes old effect new
Steps t old (Run starved) effect new = RunsLayer old starved effect new
Steps t old Settle effect new = Settles old effect new
Steps t old (Collect conn) effect new = Collects (old.standing conn.0) old conn.0 effect new
Steps t old (Close conn) effect new = Closes old conn.0 effect new
Steps t old (Repeat k) effect new = Repeats old k effect new

-- the steps are made one after another, with these answers
abbrev pub Makes : Layout → World → List Step → List Effect → World → Type 0
Makes t old [] effects new = (effects ≡ []) × (new ≡ old)
Makes t old (s ∷ ss) [] new = ⊥
Makes t old (s ∷ ss) (e ∷ es) new = (mid : World) × Steps t old s e mid × Makes t mid ss es new

-- the steps lead from one world to the other
abbrev pub Leads : Layout → World → List Step → World → Type 0
Leads t old steps new = (effects : List Effect) × Makes t old steps effects new

-- ---- refusals

-- why a step isn't accepted
pub data OwnFault : Type 0 where
  Busy : OwnFault
  NoConn : OwnFault
  NoPacket : OwnFault
  InFlight : OwnFault
  NoLayer : OwnFault

-- the connection has a request that it hasn't collected
abbrev pub IsBusy : Standing → Type 0
IsBusy Closed = ⊥
IsBusy Idle = ⊥
IsBusy Waiting = Unit {0}
IsBusy (Answered outcome) = Unit {0}

-- a layer is there that isn't settled
abbrev pub IsInFlight : Layer → Type 0
IsInFlight NoneTaken = ⊥
IsInFlight (Taken ds) = Unit {0}
IsInFlight (HasRun es) = Unit {0}

-- no layer is there that can be run
abbrev pub NothingToRun : Layer → Type 0
NothingToRun NoneTaken = Unit {0}
NothingToRun (Taken ds) = ⊥
NothingToRun (HasRun es) = Unit {0}

-- no layer is there that can be settled
abbrev pub NothingToSettle : Layer → Type 0
NothingToSettle NoneTaken = Unit {0}
NothingToSettle (Taken ds) = Unit {0}
NothingToSettle (HasRun es) = ⊥

-- in this world the step is refused so
abbrev pub Refused : World → Step → OwnFault → Type 0
Refused w (Submit conn words) NoConn = w.standing conn.0 ≡ Closed
Refused w (Submit conn words) Busy = IsBusy (w.standing conn.0)
Refused w (Deliver k) NoPacket = length w.packets ≤ k
Refused w Take InFlight = IsInFlight w.layer
Refused w Take NoLayer = (w.layer ≡ NoneTaken) × ((d : Delivered) → ¬ IsReady w.queue d)
Refused w (Run starved) NoLayer = NothingToRun w.layer
Refused w Settle NoLayer = NothingToSettle w.layer
Refused w (Collect conn) NoConn = w.standing conn.0 ≡ Closed
Refused w (Close conn) NoConn = w.standing conn.0 ≡ Closed
Refused w (Repeat k) NoPacket = length w.packets ≤ k
Refused w step fault = ⊥
