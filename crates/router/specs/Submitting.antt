-- What a submit does.
use Rattle.std.specs.Prelude.{◌≡◌, ◌≢◌, ℕ, suc, true, false, List, [], ◌∷◌, Option, Some, None}
use Rattle.placement.specs.Layout.{Layout}
use Rattle.resp.specs.Content.{Content}
use Rattle.sessions.specs.Control.{control_in}
use Rattle.sessions.specs.Session.{Answer, Now, Go, asks}
use Rattle.tasks.specs.Tasks.{Task, task_groups, keyless_reply}
use Rattle.router.specs.Connection.{answer_of, with_standing}
use Rattle.router.specs.Lists.{is_open_list}
use Rattle.router.specs.Router.{RouterView, connection, is_open, session_at, pending_at, Changes, Turns}
use Rattle.router.specs.declared.connection.Connection.{Connection}
use Rattle.router.specs.declared.connection.Standing.{Standing}
use Rattle.router.specs.declared.connection.Standing.TheVariants.{Idle, Waiting, Taken, Answered}
use Rattle.router.specs.declared.submission.Submission.{Submission}
use Rattle.router.specs.declared.submission.SubmitFault.{SubmitFault}
use Rattle.router.specs.declared.submission.SubmitFault.TheVariants.{Busy, NoConn, Memory}
use Rattle.router.specs.declared.router.Idle.{Idle as Known}
use Rattle.groups.specs.declared.request.RequestId.{RequestId}
use Rattle.worded.specs.declared.worded.Worded.{Worded}

-- the groups that a request addresses: those of the task that is to be run
abbrev pub groups_by : Layout → Answer → List ℕ
groups_by table (Now reply) = []
groups_by table (Go task) = task_groups table task

-- how the connection stands where a task is to be run, by what the task answers if it looks at no key: one that looks at none
-- is answered at once, and any other waits, with words that say it
abbrev pub StandsAs : RequestId → Task → Option Content → Standing → Type 0
StandsAs id task (Some reply) (Answered o) = answer_of o ≡ record { id = id; reply = reply; stamp = None }
StandsAs id task None (Waiting asked) = asked.batch ≡ task
StandsAs id task reply standing = ⊥

-- how it stands by what came of its words: what is answered has its outcome at once
abbrev pub StandsBy : RequestId → Answer → Standing → Type 0
StandsBy id (Now reply) (Answered o) = answer_of o ≡ record { id = id; reply = reply; stamp = None }
StandsBy id (Now reply) standing = ⊥
StandsBy id (Go task) standing = StandsAs id task (keyless_reply task) standing

-- how a connection stands, and which groups its request addresses, by what came of the words
pub record TellsOf (table : Layout) (id : RequestId) (answer : Answer) (told : Standing × List ℕ) : Type 0 where
  pub standing : StandsBy id answer told.0
  pub groups : told.1 ≡ groups_by table answer

abbrev pub next_id : ℕ → Connection → RequestId
next_id c v = record { conn = record { 0 = c }; seq = suc v.seq }

-- the submission of these words by connection c, which was open and idle: its session says what comes of them, and what it
-- remembers then
pub record Submits (table : Layout) (c : ℕ) (words : List (List ℕ)) (old : RouterView) (s : Submission) (new : RouterView) : Type 0 where
  pub was : Connection
  pub kept : connection old c ≡ Some was
  pub live : was.is_open ≡ true
  pub idle : was.standing ≡ Idle
  pub now : Connection
  pub changes : Turns old new c (Some now) (asks (session_at old c) words).0
  pub still : now.is_open ≡ true
  pub seq : now.seq ≡ suc was.seq
  pub same_floor : now.floor ≡ was.floor
  pub standing : StandsBy (next_id c was) (asks (session_at old c) words).1 now.standing
  pub id : s.id ≡ next_id c was
  pub floor : s.floor ≡ was.floor
  pub groups : s.groups ≡ groups_by table (asks (session_at old c) words).1

-- ---- submitted and taken at once

-- what the request asks is out, if it waited; nothing else has changed
abbrev pub TakesOut : RouterView → RequestId → List Worded → RouterView → Type 0
TakesOut old id [] new = (pending_at (connection old id.conn.0) id.seq ≡ None) × (new ≡ old)
TakesOut old id (asked ∷ []) new = (pending_at (connection old id.conn.0) id.seq ≡ Some asked)
    × ((v : Connection) × (connection old id.conn.0 ≡ Some v) × Changes old new id.conn.0 (Some (with_standing v Taken)))
TakesOut old id (asked ∷ other ∷ more) new = ⊥

-- words are submitted, and then what they ask is taken out
pub record SubmitsAndTakes (table : Layout) (c : ℕ) (words : List (List ℕ)) (old : RouterView) (s : Submission) (asked : List Worded)
    (new : RouterView) : Type 0 where
  pub mid : RouterView
  pub submits : Submits table c words old s mid
  pub takes : TakesOut mid s.id asked new

-- each connection is and remembers what it was and did
pub record IsAsBefore (old new : RouterView) : Type 0 where
  pub opened : new.opened ≡ old.opened
  pub at : (d : ℕ) → connection new d ≡ connection old d
  pub sessions : session_at new ≡ session_at old

-- what comes of the words of connection c is what they say by themselves: no list is open, and they name none of the three
abbrev pub AreAlone : RouterView → ℕ → List (List ℕ) → Type 0
AreAlone r c words = (is_open_list (session_at r c) ≡ false) × (control_in words ≡ None)

-- ---- what is known of a connection

-- an open connection, idle or not
pub record IsIdle (o : Option Connection) : Type 0 where
  pub was : Connection
  pub kept : o ≡ Some was
  pub live : was.is_open ≡ true
  pub idle : was.standing ≡ Idle

-- what is known of it
pub record IsIdleAt (o : Option Connection) (known : Known) : Type 0 where
  pub idle : IsIdle o
  pub seq : known.seq ≡ idle.was.seq
  pub floor : known.floor ≡ idle.was.floor

pub record IsBusy (o : Option Connection) : Type 0 where
  pub was : Connection
  pub kept : o ≡ Some was
  pub live : was.is_open ≡ true
  pub busy : was.standing ≢ Idle

-- why a connection's submit was refused
abbrev pub IsRefused : Option Connection → SubmitFault → Type 0
IsRefused o Busy = IsBusy o
IsRefused o NoConn = is_open o ≡ false
IsRefused o Memory = IsIdle o
