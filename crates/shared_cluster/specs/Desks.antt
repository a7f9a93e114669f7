-- What a connection's desk answers.
use Rattle.std.specs.Prelude.{◌≡◌, ◌≢◌, ℕ, List, Ok, Err}
use Rattle.cluster.specs.Clusters.{SeatView}
use Rattle.cluster.specs.Histories.{HistoryView, IsLawful}
use Rattle.placement.specs.Layout.{Layout}
use Rattle.shared_cluster.specs.Asks.{IsReplied, IsSubmitFault, IsAskFault}
use Rattle.shared_cluster.specs.declared.fault.FaultKind.TheVariants as kind
use Rattle.shared_cluster.specs.declared.held.AskFault.{AskFault}
use Rattle.router.specs.Router.{session_at}
use Rattle.serving.specs.Answers.{Answer}
use Rattle.serving.specs.declared.door.DoorFault.TheVariants.{Memory, Ended}
use Rattle.sessions.specs.Session.{Queues}

-- in a lawful history the connection's list was not open, or the words are not to be its next member
abbrev pub IsUnqueued : SeatView → List (List ℕ) → Type 0
IsUnqueued s words = (h : HistoryView) × IsLawful h × ¬ Queues (session_at h.front.router s.conn.0) words

-- the submit of these words was refused for want of memory
abbrev pub IsStarved : SeatView → List (List ℕ) → Type 0
IsStarved s words = (fault : AskFault) × (fault.kind ≡ kind.Memory) × IsSubmitFault s words fault

-- The reply is that of what came of these words, which the seat asked as its next request; or the submit of words that no list
-- was to have was refused for want of memory, and the seat is as before; or the connection ends, for the reason for which the
-- ask was refused.
abbrev pub Asks : Layout → SeatView → List (List ℕ) → Answer AskFault → SeatView → Type 0
Asks t old words (Ok reply) new = IsReplied t old words reply new
Asks t old words (Err Memory) new = (new ≡ old) × IsUnqueued old words × IsStarved old words
Asks t old words (Err (Ended reason)) new = (reason.kind ≢ kind.Memory) × IsAskFault old words reason new
