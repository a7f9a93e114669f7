-- How the turns of a locked cluster go on.
use Rattle.std.specs.Prelude.{◌≡◌, ◌≢◌, ℕ, Bool, true, List, [], ◌⊎◌, Option, None}
use Rattle.delivery.specs.Queues.{queue_of}
use Rattle.delivery.specs.Ready.{IsReady}
use Rattle.front.specs.Looking.{IsQuiet}
use Rattle.cluster.specs.Clusters.{SeatView, ClusterView, SameBook, IsCollectFault}
use Rattle.cluster.specs.Histories.{HistoryView, IsUnchanged}
use Rattle.cluster.specs.Layers.{HandsOut, IsSettled, IsSettleFault}
use Rattle.cluster.specs.Passing as cluster
use Rattle.cluster.specs.Sealed.{TakenView, RanView}
use Rattle.cluster.specs.Turns.{Delivers}
use Rattle.cluster.specs.declared.fault.StepFault.TheVariants as fault
use Rattle.placement.specs.Layout.{Layout}
use Rattle.resp.specs.Content.{Content}
use Rattle.router.specs.Router.{waiting}
use Rattle.shared_cluster.specs.Asks.{Submits, Replies, RefusesTurn}
use Rattle.shared_cluster.specs.declared.held.Next.{Next}
use Rattle.shared_cluster.specs.declared.held.Next.TheVariants.{Taken, Delivered, Starved, Quiet}
use Rattle.shared_cluster.specs.declared.held.Unsettled.{Unsettled}
use Rattle.shared_cluster.specs.declared.held.Unsettled.TheVariants as unsettled
use Rattle.skeen_core.specs.declared.packet.Delivered as skeen

-- a request is ready, and no layer is out
pub record MayTake (h : HistoryView) : Type 0 where
  pub out : h.front.out ≡ []
  pub request : skeen.Delivered
  pub ready : IsReady (queue_of h.front.multicast.queues) request

-- A packet was brought to its group, or there was no memory for that, or none is under way; and then nothing has changed.
abbrev pub Carries : (ℕ → ℕ) → HistoryView → HistoryView → Next TakenView → Type 0
Carries pick old new (Taken layer) = ⊥
Carries pick old new Delivered = Delivers pick old new
Carries pick old new Starved = (old.front.multicast.packets ≢ []) × IsUnchanged old new
Carries pick old new Quiet = (old.front.multicast.packets ≡ []) × IsUnchanged old new

-- A layer was taken, and these are its requests; or there was no memory for that, and nothing has changed.
abbrev pub Takes : HistoryView → HistoryView → Next TakenView → Type 0
Takes old new (Taken layer) = HandsOut old layer new
Takes old new Delivered = ⊥
Takes old new Starved = IsUnchanged old new
Takes old new Quiet = ⊥

-- a layer is taken where one may be, else a packet is brought to its group
abbrev pub GoesOn : (ℕ → ℕ) → HistoryView → HistoryView → Next TakenView → Type 0
GoesOn pick old new (Taken layer) = MayTake old × HandsOut old layer new
GoesOn pick old new Delivered = (¬ MayTake old) × Delivers pick old new
GoesOn pick old new Starved = (MayTake old ⊎ (old.front.multicast.packets ≢ [])) × IsUnchanged old new
GoesOn pick old new Quiet = (¬ MayTake old) × (old.front.multicast.packets ≡ []) × IsUnchanged old new

-- The seat submitted these words as its next request. Nothing more was made; or that request came to its group and was taken at once, and
-- this is the layer.
pub record PassesOn (before : HistoryView) (old : SeatView) (words : List (List ℕ)) (taken : Option TakenView) (after : HistoryView)
    (new : SeatView) : Type 0 where
  pub begun : HistoryView
  pub submits : Submits before old words begun new
  pub goes_on : cluster.GoesOn begun taken after

-- Why what came of a layer isn't settled: it is that of the layer that is out, there was no memory for the trace that is kept, and it is
-- given back; or it isn't what came of that layer.
abbrev pub RefusesSettle : HistoryView → RanView → Unsettled RanView → Type 0
RefusesSettle h ran (unsettled.Starved given) = (given ≡ ran) × IsSettleFault h ran fault.Memory
RefusesSettle h ran (unsettled.Foreign why) = IsSettleFault h ran fault.NoLayer × RefusesTurn true h why

-- What came of the layer was settled, and then the seat collected this reply: so there is a history between.
pub record Finishes (t : Layout) (before : HistoryView) (ran : RanView) (old : SeatView) (reply : Content) (after : HistoryView)
    (new : SeatView) : Type 0 where
  pub mid : HistoryView
  pub settled : IsSettled before ran.done mid
  pub replies : Replies t mid old reply after new

-- nothing of the cluster has changed but room
pub record StaysSo (old new : ClusterView) : Type 0 where
  pub history : IsUnchanged old.history new.history
  pub book : SameBook old new
  pub sat : new.sat ≡ old.sat

-- why nothing is collected though it isn't refused: no outcome waits for the seat, or one waits and there was no memory for it
abbrev pub IsNotThere : HistoryView → SeatView → Type 0
IsNotThere h s = (waiting h.front.router s.conn.0 ≡ None) ⊎ IsCollectFault h s fault.Memory

-- it is shut, and nothing is under way
abbrev pub IsAtRest : Bool → HistoryView → Type 0
IsAtRest shut h = (shut ≡ true) × IsQuiet h.front
