-- What a seat asks of a shared cluster, and what it is answered. The cluster under the lock is another one each time it
-- is taken; but what a seat has seen of its history is a beginning of one list, of which every other seat has seen a beginning too.
use Rattle.std.specs.Prelude.{◌≡◌, ◌≢◌, ℕ, suc, ◌+◌, Bool, true, false, ◌&&◌, List, [], ◌∷◌, ◌++◌, ◌⊎◌, Option, Some, None, is_none}
use mathlib.Core.List.{IsPrefix}
use Rattle.cluster.specs.Answers as cluster
use Rattle.cluster.specs.Clusters.{SeatView, last_id}
use Rattle.cluster.specs.Clusters as clusters
use Rattle.cluster.specs.Histories.{HistoryView, IsLawful, IsMade, IsFault}
use Rattle.cluster.specs.Outcomes.{ComesFrom, IsAbove, raised}
use Rattle.cluster.specs.Submits.{submits_by, IsSaid, session_met}
use Rattle.cluster.specs.Turns.{IsTurnFault}
use Rattle.cluster.specs.declared.fault.StepFault.{StepFault}
use Rattle.cluster.specs.declared.fault.StepFault.TheVariants as step
use Rattle.groups.specs.declared.request.ConnId.{ConnId}
use Rattle.groups.specs.declared.request.RequestId.{RequestId}
use Rattle.journal.specs.declared.step.Step.{Step}
use Rattle.journal.specs.declared.step.Step.TheVariants.{Open, Submit, Take, Collect}
use Rattle.placement.specs.Layout.{Layout}
use Rattle.resp.specs.Content.{Content, content}
use Rattle.resp.specs.declared.reply.Reply.{Reply}
use Rattle.router.specs.Lists.{is_listing}
use Rattle.router.specs.Router.{session_at}
use Rattle.sessions.specs.Control.{control_in}
use Rattle.shared_cluster.specs.declared.fault.AskStep.TheVariants as asked
use Rattle.shared_cluster.specs.declared.fault.FaultKind.{FaultKind}
use Rattle.shared_cluster.specs.declared.fault.FaultKind.TheVariants.{Closed, Memory, Exhausted, Failed, NoConn, Unlisted}
use Rattle.shared_cluster.specs.declared.held.AskFault.{AskFault}
use Rattle.world.specs.Steps.{opening, Opened, Submitted, Collected, Steps, Leads}
use Rattle.world.specs.World.{World, Outcome}
use Rattle.world_laws.specs.Sessions.{all_free, sessions_from}

-- ---- a seat behind the lock

-- The seat's connection was opened as the step from one history to the other, which is lawful. It has submitted nothing, and has seen
-- all steps.
pub record IsSeated (before : HistoryView) (s : SeatView) (after : HistoryView) : Type 0 where
  pub opened : IsMade before Open (Opened s.conn.0) after
  pub lawful : IsLawful after
  pub seat : s ≡ record { conn = s.conn; floor = 0; count = 0; last = 0; seen = after.steps }

-- The seat submitted these words as its next request, by the step from one history to the other. What it had seen lies before.
pub record Submits (before : HistoryView) (old : SeatView) (words : List (List ℕ)) (after : HistoryView) (new : SeatView) : Type 0 where
  pub id : RequestId
  pub made : IsMade before (Submit old.conn words) (Submitted id) after
  pub behind : IsPrefix old.seen before.steps
  pub number : id ≡ record { conn = old.conn; seq = suc (submits_by old.conn.0 before.steps) }
  pub seat : new ≡ record old { count = old.count + 1; last = id.seq; seen = after.steps }

-- This is the reply of what came of the seat's last request, which its connection collected by the step from one history to the
-- other, which is lawful, as was the one before.
pub record Replies (t : Layout) (before : HistoryView) (old : SeatView) (reply : Content) (after : HistoryView) (new : SeatView)
    : Type 0 where
  pub table : before.front.table ≡ t
  pub given : Reply
  pub is : content given ≡ reply
  pub replied : cluster.IsReplied before old given after new

-- ---- a seat of a shared cluster

abbrev pub IsNewSeat : SeatView → Type 0
IsNewSeat s = (before : HistoryView) × (after : HistoryView) × IsSeated before s after

-- these words were submitted as the seat's next request, behind these steps, which begin with all that it had seen
pub record HasSubmitted (old : SeatView) (words : List (List ℕ)) (new : SeatView) : Type 0 where
  pub before : List Step
  pub behind : IsPrefix old.seen before
  pub seat : new ≡ record {
    conn = old.conn;
    floor = old.floor;
    count = old.count + 1;
    last = suc (submits_by old.conn.0 before);
    seen = before ++ Submit old.conn words ∷ [];
  }

-- This is the reply of the outcome which the seat's connection collected behind these steps, in the world to which they lead: that of
-- the seat's last request, whichever words it was submitted with. The steps begin with all that the seat had seen.
pub record IsCollected (t : Layout) (old : SeatView) (answer : Content) (new : SeatView) : Type 0 where
  pub steps : List Step
  pub behind : IsPrefix old.seen steps
  pub world : World
  pub leads : Leads t opening steps world
  pub outcome : Outcome
  pub after : World
  pub collects : Steps t world (Collect old.conn) (Collected (Some outcome)) after
  pub id : outcome.id ≡ last_id old
  pub reply : outcome.reply ≡ answer
  pub from : (words : List (List ℕ)) (said : IsSaid steps outcome.id words) → ComesFrom t world (session_met said) words outcome
  pub above : IsAbove outcome.stamp old.floor
  pub seat : new ≡ record old { floor = raised outcome.stamp old.floor; seen = steps ++ Collect old.conn ∷ [] }

-- The seat submitted these words as its next request, and this is the reply to them. In the history of all steps, of which the seat
-- has seen a part before and has one behind, the Submit lies behind all that the seat had seen; its connection collected the outcome
-- behind it, in the world to which the steps lead, and it is that request's: what came of it where it was run, or what its words are
-- answered at once in the session that they met. Its stamp is above the seat's floor, and raises it.
pub record IsReplied (t : Layout) (old : SeatView) (words : List (List ℕ)) (answer : Content) (new : SeatView) : Type 0 where
  pub before : List Step
  pub seen : IsPrefix old.seen before
  pub steps : List Step
  pub behind : IsPrefix (before ++ Submit old.conn words ∷ []) steps
  pub world : World
  pub leads : Leads t opening steps world
  pub outcome : Outcome
  pub after : World
  pub collects : Steps t world (Collect old.conn) (Collected (Some outcome)) after
  pub id : outcome.id ≡ record { conn = old.conn; seq = suc (submits_by old.conn.0 before) }
  pub reply : outcome.reply ≡ answer
  pub from : ComesFrom t world (sessions_from all_free before old.conn.0) words outcome
  pub above : IsAbove outcome.stamp old.floor
  pub seat : new ≡ record {
    conn = old.conn;
    floor = raised outcome.stamp old.floor;
    count = old.count + 1;
    last = outcome.id.seq;
    seen = steps ++ Collect old.conn ∷ [];
  }

-- ---- refusals

-- what a seat is told where a step isn't made
abbrev pub told : StepFault → FaultKind
told step.Exhausted = Exhausted
told step.Memory = Memory
told step.Busy = NoConn
told step.NoConn = NoConn
told step.NoPacket = NoConn
told step.InFlight = NoConn
told step.NoLayer = NoConn

-- the connection's list is open, and these words are none of MULTI, EXEC and DISCARD
abbrev pub is_listed : HistoryView → ConnId → List (List ℕ) → Bool
is_listed h conn words = is_listing (session_at h.front.router conn.0) && is_none (control_in words)

-- what a seat is told where its submit isn't made: for such words want of memory has a kind of its own
abbrev pub unlisted : Bool → FaultKind → FaultKind
unlisted true Memory = Unlisted
unlisted listed kind = kind

abbrev pub told_in : Bool → StepFault → FaultKind
told_in listed fault = unlisted listed (told fault)

-- the same where it isn't want of memory, after which the step is tried again
abbrev pub unless_memory : FaultKind → Option FaultKind
unless_memory Memory = None
unless_memory kind = Some kind

abbrev pub lasting : StepFault → Option FaultKind
lasting fault = unless_memory (told fault)

-- A cluster, which is lawful, refuses a step for a fault of the step's own, and it is told so.
pub record Refuses (h : HistoryView) (telling : StepFault → FaultKind) (IsWhy : StepFault → Type 0) (kind : FaultKind) : Type 0 where
  pub lawful : IsLawful h
  pub own : StepFault
  pub is : telling own ≡ kind
  pub why : IsWhy own

-- what is locked is stopped, since a layer was refused for good, or its cluster refuses
abbrev pub IsStoppedOr : Bool → Type 0 → FaultKind → Type 0
IsStoppedOr true refuses kind = kind ≡ Failed
IsStoppedOr false refuses kind = refuses

-- what is locked is shut, or it is stopped, or its cluster refuses
abbrev pub IsShutOr : Bool → Type 0 → FaultKind → Type 0
IsShutOr true refuses kind = kind ≡ Closed
IsShutOr false refuses kind = refuses

-- ---- refusals of what is locked: whether it is shut, whether it is stopped, and its cluster's history

abbrev pub RefusesAsk : Bool → Bool → HistoryView → (StepFault → FaultKind) → (StepFault → Type 0) → FaultKind → Type 0
RefusesAsk shut stopped h telling IsWhy kind = IsShutOr shut (IsStoppedOr stopped (Refuses h telling IsWhy kind) kind) kind

abbrev pub RefusesSit : Bool → Bool → HistoryView → AskFault → Type 0
RefusesSit shut stopped h fault = (fault.step ≡ asked.Sit) × RefusesAsk shut stopped h told (IsFault h Open) fault.kind

abbrev pub RefusesSubmit : Bool → Bool → HistoryView → SeatView → List (List ℕ) → AskFault → Type 0
RefusesSubmit shut stopped h s words fault =
    (fault.step ≡ asked.Submit s.conn s.count)
    × RefusesAsk shut stopped h (told_in (is_listed h s.conn words)) (IsFault h (Submit s.conn words)) fault.kind

-- want of memory isn't told: it is tried again
abbrev pub RefusesCollect : Bool → HistoryView → SeatView → AskFault → Type 0
RefusesCollect stopped h s fault =
    (fault.step ≡ asked.Collect s.conn s.count) × (fault.kind ≢ Memory)
    × IsStoppedOr stopped (Refuses h told (clusters.IsCollectFault h s) fault.kind) fault.kind

-- why no packet comes to its group, or no layer is taken
abbrev pub IsOwnTurnFault : HistoryView → StepFault → Type 0
IsOwnTurnFault h own = IsTurnFault h own ⊎ IsFault h Take own

abbrev pub RefusesTurn : Bool → HistoryView → AskFault → Type 0
RefusesTurn stopped h fault =
    (fault.step ≡ asked.Turn) × (fault.kind ≢ Memory) × IsStoppedOr stopped (Refuses h told (IsOwnTurnFault h) fault.kind) fault.kind

-- ---- the same of a shared cluster, which was such a one when it was locked

abbrev pub IsSitFault : AskFault → Type 0
IsSitFault fault = (shut : Bool) × (stopped : Bool) × (h : HistoryView) × RefusesSit shut stopped h fault

abbrev pub IsSubmitFault : SeatView → List (List ℕ) → AskFault → Type 0
IsSubmitFault s words fault = (shut : Bool) × (stopped : Bool) × (h : HistoryView) × RefusesSubmit shut stopped h s words fault

-- why no turn is made any more
abbrev pub IsStopped : AskFault → Type 0
IsStopped fault = (stopped : Bool) × (h : HistoryView) × RefusesTurn stopped h fault

-- why what came of a seat's request isn't given: it isn't collected, or no turn is made any more
abbrev pub IsCollectFault : SeatView → AskFault → Type 0
IsCollectFault s fault = ((stopped : Bool) × (h : HistoryView) × RefusesCollect stopped h s fault) ⊎ IsStopped fault

-- Why an ask is refused, and what that leaves of the seat: the request isn't submitted and the seat is as before, or it
-- was submitted and what came of it isn't given.
abbrev pub IsAskFault : SeatView → List (List ℕ) → AskFault → SeatView → Type 0
IsAskFault old words fault new =
    (IsSubmitFault old words fault × (new ≡ old)) ⊎ (HasSubmitted old words new × IsCollectFault new fault)
