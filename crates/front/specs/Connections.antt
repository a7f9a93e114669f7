-- What the router shows of a world.
use Rattle.std.specs.Prelude.{◌≡◌, ℕ, true, false, List, ◌++◌, ◌⊎◌, Option, Some, None}
use Rattle.resp.specs.Content.{content}
use Rattle.router.specs.Connection.{is_under_way}
use Rattle.router.specs.Router.{RouterView, connection, session_at}
use Rattle.router.specs.declared.connection.Connection.{Connection}
use Rattle.router.specs.declared.connection.Standing.{Standing}
use Rattle.router.specs.declared.connection.Standing.TheVariants as router
use Rattle.router.specs.declared.outcome.Outcome as kept
use Rattle.groups.specs.declared.request.RequestId.{RequestId}
use Rattle.sessions.specs.declared.session.Session.{Session}
use Rattle.sessions.specs.declared.session.Session.TheVariants.{Free}
use Rattle.world.specs.Steps.{floor_of}
use Rattle.world.specs.World.{World, Request, Outcome, Standing as Stand, Closed, Idle, Waiting, Answered, Ended, Layer, NoneTaken, Taken}
use Rattle.world.specs.World.{HasRun}
use Rattle.worded.specs.declared.worded.Worded.{Worded}
use Rattle.world_laws.specs.Good.{Named, run_in, all_delivered}
use Rattle.skeen_core.specs.Group.{has_id}

-- an outcome, apart from how its reply lies in memory
abbrev pub outcome_shown : kept.Outcome → Outcome
outcome_shown o = record { id = o.id; reply = content o.reply; stamp = o.stamp }

-- what a request asks that waits to be taken: it was submitted with that task
abbrev pub Waits : World → RequestId → Worded → Type 0
Waits w id asked = (q : Request) × (w.asked id ≡ Some q) × (q.task ≡ asked.batch)

-- the request is in the layer, run or not
abbrev pub InLayer : Layer → RequestId → Type 0
InLayer NoneTaken id = ⊥
InLayer (Taken ds) id = has_id ds id ≡ true
InLayer (HasRun es) id = has_id (all_delivered es) id ≡ true

-- the request of that number of the connection
abbrev pub id_of : ℕ → ℕ → RequestId
id_of c seq = record { conn = record { 0 = c }; seq = seq }

-- how an open connection stands
abbrev pub ShowsOpen : Standing → Connection → World → ℕ → Type 0
ShowsOpen router.Idle v w c = (w.standing c ≡ Idle) × (v.floor ≡ floor_of w c)
ShowsOpen (router.Waiting asked) v w c = (w.standing c ≡ Waiting) × Waits w (id_of c v.seq) asked
ShowsOpen router.Taken v w c = (w.standing c ≡ Waiting) × InLayer w.layer (id_of c v.seq)
ShowsOpen (router.Answered o) v w c = (w.standing c ≡ Answered (outcome_shown o)) × (v.floor ≡ floor_of w c)

-- how a closed one does, which is kept as long as its request is under way
abbrev pub ShowsClosed : Standing → Connection → World → ℕ → Type 0
ShowsClosed router.Idle v w c = ⊥
ShowsClosed (router.Waiting asked) v w c = (w.standing c ≡ Closed) × Waits w (id_of c v.seq) asked
ShowsClosed router.Taken v w c = (w.standing c ≡ Closed) × InLayer w.layer (id_of c v.seq)
ShowsClosed (router.Answered o) v w c = ⊥

abbrev pub ShowsKept : Connection → World → ℕ → Type 0
ShowsKept v w c =
    (v.seq ≡ w.seq c) ×
    (((v.is_open ≡ true) × ShowsOpen v.standing v w c) ⊎ ((v.is_open ≡ false) × ShowsClosed v.standing v w c))

abbrev pub ShowsConnection : Option Connection → World → ℕ → Type 0
ShowsConnection None w c = w.standing c ≡ Closed
ShowsConnection (Some v) w c = ShowsKept v w c

-- the request was settled: it ended before the layer that is there
abbrev pub IsSettled : World → RequestId → Type 0
IsSettled w id = (settled : List Ended) × (w.ended ≡ settled ++ run_in w.layer) × Named settled id

-- its connection is kept for it
pub record IsKeptFor (r : RouterView) (id : RequestId) : Type 0 where
  pub v : Connection
  pub kept : connection r id.conn.0 ≡ Some v
  pub seq : v.seq ≡ id.seq
  pub under_way : is_under_way v.standing ≡ true

-- the router remembers of each open connection what the world does, and of any other one nothing
pub record ShowsSessions (kept : ℕ → Session) (standing : ℕ → Stand) (session : ℕ → Session) : Type 0 where
  pub of_open : (c : ℕ) → (standing c ≡ Closed → ⊥) → kept c ≡ session c
  pub of_closed : (c : ℕ) → standing c ≡ Closed → kept c ≡ Free

pub record ShowsConnections (r : RouterView) (w : World) : Type 0 where
  pub opened : r.opened ≡ w.opened
  pub each : (c : ℕ) → ShowsConnection (connection r c) w c
  pub sessions : ShowsSessions (session_at r) w.standing w.session
  pub under_way : (id : RequestId) (q : Request) → w.asked id ≡ Some q → IsSettled w id ⊎ IsKeptFor r id
