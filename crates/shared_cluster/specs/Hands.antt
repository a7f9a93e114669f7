-- What a thread that brings work on has in its hand behind a turn. The cluster and the store that it finds are others each time, so
-- it is said that there were such, which were lawful.
use Rattle.std.specs.Prelude.{◌≡◌, ℕ, Bool, true, false, List, Some, None}
use Rattle.cluster.specs.Clusters.{SeatView, ClusterView}
use Rattle.cluster.specs.Histories.{HistoryView, IsLawful}
use Rattle.cluster.specs.Layers.{IsSettled}
use Rattle.cluster.specs.Running.{RunsTaken, LacksMemory, IsRefusedForGood}
use Rattle.cluster.specs.Sealed.{TakenView, RanView}
use Rattle.placement.specs.Layout.{Layout}
use Rattle.serial_store.specs.Stores.{SerialState}
use Rattle.serial_store.specs.Stores as stores
use Rattle.resp.specs.Content.{content}
use Rattle.shared_cluster.specs.Asks.{HasSubmitted, IsCollected, IsReplied}
use Rattle.shared_cluster.specs.Turning.{GoesOn, StaysSo, IsNotThere}
use Rattle.shared_cluster.specs.declared.asking.Begun as asking
use Rattle.shared_cluster.specs.declared.asking.Begun.TheVariants as begun
use Rattle.shared_cluster.specs.declared.asking.Settled as settling
use Rattle.shared_cluster.specs.declared.asking.Settled.TheVariants as settled
use Rattle.shared_cluster.specs.declared.hand.Hand as declared
use Rattle.shared_cluster.specs.declared.hand.Hand.TheVariants as hand
use Rattle.shared_cluster.specs.declared.hand.Run as ran
use Rattle.shared_cluster.specs.declared.hand.Run.TheVariants as run
use Rattle.shared_cluster.specs.declared.held.Next as found
use Rattle.shared_cluster.specs.declared.held.Next.TheVariants as next
use Rattle.shared_cluster.specs.declared.shared.Turn.{Turn}
use Rattle.shared_cluster.specs.declared.shared.Turn.TheVariants as turn

-- what may be in a hand, what running a layer came to, and what was found to be done
abbrev pub Hand : Type 0
Hand = declared.Hand TakenView RanView

abbrev pub Run : Type 0
Run = ran.Run TakenView RanView

abbrev pub Next : Type 0
Next = found.Next TakenView

abbrev pub Begun : Type 0
Begun = asking.Begun TakenView RanView

abbrev pub Settled : Type 0
Settled = settling.Settled RanView

-- ---- a hand that is free begins

-- this was found to be done in a cluster, and was done there
pub record IsFound (pick : ℕ → ℕ) (found : Next) : Type 0 where
  pub before : HistoryView
  pub after : HistoryView
  pub lawful : IsLawful before
  pub goes_on : GoesOn pick before after found

-- a layer that was taken is in the hand; nothing else changes it
abbrev pub taken_up : Hand → Next → Hand
taken_up held (next.Taken layer) = hand.Taken layer
taken_up held next.Delivered = held
taken_up held next.Starved = held
taken_up held next.Quiet = held

abbrev pub turn_of : Next → Turn
turn_of (next.Taken layer) = turn.Made false
turn_of next.Delivered = turn.Made false
turn_of next.Starved = turn.Starved
turn_of next.Quiet = turn.Quiet

-- what was found to be done was done, and is told so; and a layer that was taken is in the hand
pub record Begins (pick : ℕ → ℕ) (old : Hand) (which : Turn) (new : Hand) : Type 0 where
  pub found : Next
  pub was : IsFound pick found
  pub told : which ≡ turn_of found
  pub holds : new ≡ taken_up old found

-- ---- a layer is in the hand

-- It was brought to a store: it was run, and sealed with what came of it; or there was no memory, and it is given back with nothing
-- changed; or it is refused for good.
abbrev pub BringsOn : Bool → SerialState → TakenView → Run → SerialState → Type 0
BringsOn may_refuse old taken (run.Handed came) new = RunsTaken old taken came new
BringsOn may_refuse old taken (run.Starved given) new = (given ≡ taken) × LacksMemory may_refuse old taken new
BringsOn may_refuse old taken (run.Refused why) new = IsRefusedForGood may_refuse old taken new

-- so it was, where the store was lawful
pub record IsBrought (t : Layout) (may_refuse : Bool) (taken : TakenView) (came : Run) : Type 0 where
  pub before : SerialState
  pub after : SerialState
  pub lawful : stores.IsLawful t before.store before.runs
  pub brings_on : BringsOn may_refuse before taken came after

-- what came of just this layer is in the hand; or there was no memory to run it, and it still is
abbrev pub Brings : Layout → Bool → TakenView → Turn → Hand → Type 0
Brings t may_refuse taken which hand.Free = ⊥
Brings t may_refuse taken which (hand.Taken given) = (which ≡ turn.Starved) × (given ≡ taken)
Brings t may_refuse taken which (hand.HasRun came) = (which ≡ turn.Made false) × IsBrought t may_refuse taken (run.Handed came)

-- ---- what came of a layer is in the hand

-- it was settled in a cluster
pub record HasSettled (ran : RanView) : Type 0 where
  pub before : HistoryView
  pub after : HistoryView
  pub lawful : IsLawful before
  pub settled : IsSettled before ran.done after

-- it was settled, and the hand, from which it was taken, is as it was; or there was no memory for that, and it is in the hand
abbrev pub Settles : RanView → Hand → Turn → Hand → Type 0
Settles ran old (turn.Made settled) new = (settled ≡ true) × (new ≡ old) × HasSettled ran
Settles ran old turn.Starved new = new ≡ hand.HasRun ran
Settles ran old turn.Quiet new = ⊥

-- ---- any hand

-- a turn of this hand: what is in it stays there until it is settled
abbrev pub Advances : Layout → (ℕ → ℕ) → Bool → Hand → Turn → Hand → Type 0
Advances t pick may_refuse hand.Free which new = Begins pick hand.Free which new
Advances t pick may_refuse (hand.Taken layer) which new = Brings t may_refuse layer which new
Advances t pick may_refuse (hand.HasRun came) which new = Settles came hand.Free which new

-- ---- who has a hand

-- it made a turn, or there was no memory for one, or none to be made
pub record HasTurned (t : Layout) (old new : Hand) : Type 0 where
  pub pick : ℕ → ℕ
  pub may_refuse : Bool
  pub which : Turn
  pub turns : Advances t pick may_refuse old which new

-- nothing was collected for this seat: no outcome waited for it, or there was no memory for the one that did
pub record IsUncollected (s : SeatView) : Type 0 where
  pub before : ClusterView
  pub after : ClusterView
  pub lawful : IsLawful before.history
  pub none : IsNotThere before.history s
  pub stays : StaysSo before after

-- it looked for what came of its seat's last request, which wasn't there
abbrev pub LooksInVain : SeatView → Hand → Hand → Type 0
LooksInVain s old new = IsUncollected s × (new ≡ old)

-- what came of a layer is in it
abbrev pub HoldsRun : Hand → Type 0
HoldsRun held = (came : RanView) × (held ≡ hand.HasRun came)

-- nothing is in a hand that was free, or the layer that was taken
abbrev pub MayHold : Hand → Type 0
MayHold hand.Free = Unit {0}
MayHold (hand.Taken layer) = (pick : ℕ → ℕ) × IsFound pick (next.Taken layer)
MayHold (hand.HasRun came) = ⊥

-- The reply is that of the seat's last request, which was collected; or the seat waits as before, and this is in its thread's hand.
abbrev pub HasBegun : Layout → SeatView → Begun → SeatView → Type 0
HasBegun t old (begun.Replied sealed) new = IsCollected t old (content sealed.reply) new
HasBegun t old (begun.Waits held) new = (new ≡ old) × MayHold held

-- the same of a seat that has submitted these words in the same holding
abbrev pub Answers : Layout → SeatView → List (List ℕ) → Begun → SeatView → Type 0
Answers t old words (begun.Replied sealed) new = IsReplied t old words (content sealed.reply) new
Answers t old words (begun.Waits held) new = HasSubmitted old words new × MayHold held

-- What came of a layer was settled, and this was there for the seat, or nothing, and then it is as before; or there was no memory for
-- that.
abbrev pub Gives : Layout → RanView → SeatView → Settled → SeatView → Type 0
Gives t ran old (settled.Starved given) new = (given ≡ ran) × (new ≡ old)
Gives t ran old (settled.Gives (Some sealed)) new = HasSettled ran × IsCollected t old (content sealed.reply) new
Gives t ran old (settled.Gives None) new = HasSettled ran × (new ≡ old)
