-- A seat's request that is submitted and, where nothing is before it, handed out at once.
use Rattle.std.specs.Prelude.{◌≡◌, ℕ, zero, suc, ◌+◌, List, [], ◌∷◌, Option, Some, None}
use mathlib.Core.List.{IsPrefix}
use Rattle.cluster.specs.Clusters.{SeatView}
use Rattle.cluster.specs.Histories.{HistoryView, IsLawful, IsMade}
use Rattle.cluster.specs.Layers.{HandsOut}
use Rattle.cluster.specs.Sealed.{TakenView}
use Rattle.cluster.specs.Submits.{IsSaid}
use Rattle.cluster.specs.Turns.{Delivers}
use Rattle.delivery.specs.Queues.{queue_of}
use Rattle.delivery.specs.Ready.{IsReady}
use Rattle.front.specs.Passing.{packets_in}
use Rattle.groups.specs.declared.request.ConnId.{ConnId}
use Rattle.groups.specs.declared.request.RequestId.{RequestId}
use Rattle.journal.specs.declared.step.Step.{Step}
use Rattle.journal.specs.declared.step.Step.TheVariants.{Submit, Deliver}
use Rattle.skeen_core.specs.declared.packet.Delivered.{Delivered}
use Rattle.world.specs.Steps.{Submitted}

-- so many packets came, each the oldest then
abbrev pub Arrives : ℕ → HistoryView → HistoryView → Type 0
Arrives zero old new = new ≡ old
Arrives (suc n) old new = (mid : HistoryView) × Delivers (λ count. 0) old mid × Arrives n mid new

-- the steps that say so
abbrev pub arrivals : ℕ → List Step
arrivals zero = []
arrivals (suc n) = Deliver 0 ∷ arrivals n

-- All packets of the request came, and then the layer that was there was taken.
pub record TakesAtOnce (begun : HistoryView) (taken : TakenView) (new : HistoryView) : Type 0 where
  pub come : HistoryView
  pub arrives : Arrives (packets_in taken.layer) begun come
  pub lawful : IsLawful come
  pub free : come.front.out ≡ []
  pub ready : (d : Delivered) × IsReady (queue_of come.front.multicast.queues) d
  pub hands_out : HandsOut come taken new

-- nothing more was made, or all of it where a layer is handed out
abbrev pub GoesOn : HistoryView → Option TakenView → HistoryView → Type 0
GoesOn begun None new = new ≡ begun
GoesOn begun (Some taken) new = TakesAtOnce begun taken new

-- The connection's request of these words was submitted, and these are the steps up to its Submit. Then its packets came and it was
-- taken, where a layer is handed out.
pub record HasPassed (old : HistoryView) (conn : ConnId) (words : List (List ℕ)) (id : RequestId) (seen : List Step)
    (taken : Option TakenView) (new : HistoryView) : Type 0 where
  pub begun : HistoryView
  pub made : IsMade old (Submit conn words) (Submitted id) begun
  pub up_to : seen ≡ begun.steps
  pub goes_on : GoesOn begun taken new

-- The seat's request of these words was submitted, behind all that it had seen, and it has seen that step. Then its packets came
-- and it was taken, where a layer is handed out.
pub record Passes (old : HistoryView) (s : SeatView) (words : List (List ℕ)) (taken : Option TakenView) (new : HistoryView)
    (after : SeatView)
    : Type 0 where
  pub id : RequestId
  pub begun : HistoryView
  pub made : IsMade old (Submit s.conn words) (Submitted id) begun
  pub behind : IsPrefix s.seen old.steps
  pub said : IsSaid begun.steps id words
  pub seat : after ≡ record s { count = s.count + 1; last = id.seq; seen = begun.steps }
  pub goes_on : GoesOn begun taken new
