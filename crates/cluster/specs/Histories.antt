-- A front beside the one history of its steps, and the layers that a store has run of it.
use Rattle.std.specs.Prelude.{◌≡◌, ℕ, ◌+◌, ◌<◌, ◌≤◌, List, [], ◌∷◌, ◌++◌, length, map, Option}
use Rattle.cluster.specs.Traces.{IsTraceOf, SameTrace}
use Rattle.cluster.specs.declared.fault.StepFault.{StepFault}
use Rattle.cluster.specs.declared.fault.StepFault.TheVariants.{Busy, NoConn, NoPacket, InFlight, NoLayer, Exhausted, Memory}
use Rattle.front.specs.Fronts.{FrontView, FrontIsAt, HasNotRun, IsOut}
use Rattle.cluster.specs.declared.tape.Tape.{Tape}
use Rattle.journal.specs.declared.step.Step.{Step}
use Rattle.journal.specs.declared.step.Step.TheVariants.{Open, Submit, Deliver, Take, Run, Settle, Collect, Close, Repeat}
use Rattle.journal.specs.declared.trace.TheConstants.{GREATEST_STEPS}
use Rattle.layer_results.specs.declared.done.DoneRow.{DoneRow}
use Rattle.order_laws.specs.Truth.{AreRunsOf}
use Rattle.placement.specs.Layout.{Layout}
use Rattle.serial_store.specs.Serial.{layer_of}
use Rattle.skeen_core.specs.declared.packet.Delivered.{Delivered}
use Rattle.front.specs.Connections.{ShowsConnections}
use Rattle.front.specs.Multicast.{ShowsMulticast}
use Rattle.world.specs.Steps.{OwnFault, opening, Effect, Steps, Leads, Refused}
use Rattle.world.specs.Steps as world
use Rattle.world.specs.World.{World}

-- the front, at most how many steps may be made, those that were made, what came of each layer that was settled, and what
-- is kept of the trace, where one is
pub record HistoryView : Type 0 where
  pub front : FrontView
  pub max_steps : ℕ
  pub steps : List Step
  pub ran : List (List DoneRow)
  pub trace : Option Tape

-- The steps lead to the world, and the front shows it. A layer there may be taken, but none has run that isn't settled: a Run and
-- its Settle are made at once. The layers that the steps ran are those that the store ran first: so many, and these.
pub record IsTrueIn (h : HistoryView) (w : World) : Type 0 where
  pub at : FrontIsAt h.front h.steps w
  pub not_run : HasNotRun w.layer
  pub ran : AreRunsOf h.front.table h.steps w (map (layer_of h.front.table) h.ran)
  pub layers : h.front.layers ≡ length h.ran
  pub counted : h.front.steps + h.front.layers ≡ length h.steps

-- how many steps are kept back while these are out: the Run and the Settle of their layer
abbrev pub kept_for : List Delivered → ℕ
kept_for [] = 0
kept_for (d ∷ ds) = 2

-- What each history is: keys lie as the table says, the front shows the world of the steps, those that are kept back fit behind
-- them, and so does the trace.
pub record IsHistory (t : Layout) (h : HistoryView) : Type 0 where
  pub few : h.max_steps ≤ GREATEST_STEPS
  pub within : length h.steps + kept_for h.front.out ≤ h.max_steps
  pub traced : IsTraceOf h.trace h.steps h.max_steps
  pub table : h.front.table ≡ t
  pub world : World
  pub true_in : IsTrueIn h world

-- The steps lead to a world, which the front shows: its connections, its packets, groups and queues, and the layer that is out. What
-- was run there is what the store ran first.
pub record IsLawful (h : HistoryView) : Type 0 where
  pub world : World
  pub leads : Leads h.front.table opening h.steps world
  pub connections : ShowsConnections h.front.router world
  pub multicast : ShowsMulticast h.front.table h.front.multicast world
  pub out : IsOut world.layer h.front.out
  pub ran : AreRunsOf h.front.table h.steps world (map (layer_of h.front.table) h.ran)

-- ---- a step

-- how many steps are kept back beside this one: the Run and the Settle of the layer that is out, or that it takes
abbrev pub kept_back : Step → List Delivered → ℕ
kept_back Take out = 2
kept_back Open out = kept_for out
kept_back (Submit conn words) out = kept_for out
kept_back (Deliver place) out = kept_for out
kept_back (Run starved) out = kept_for out
kept_back Settle out = kept_for out
kept_back (Collect conn) out = kept_for out
kept_back (Close conn) out = kept_for out
kept_back (Repeat place) out = kept_for out

-- the step may be made: fewer were made than may be, apart from those that are kept back
abbrev pub MayGoOn : HistoryView → Step → Type 0
MayGoOn h step = length h.steps + kept_back step h.front.out < h.max_steps

-- The step is behind the others. In the world to which they lead it is accepted, and answers so. What the store ran stays.
pub record IsMade (old : HistoryView) (step : Step) (effect : Effect) (new : HistoryView) : Type 0 where
  pub left : MayGoOn old step
  pub max_steps : new.max_steps ≡ old.max_steps
  pub steps : new.steps ≡ old.steps ++ step ∷ []
  pub table : new.front.table ≡ old.front.table
  pub ran : new.ran ≡ old.ran
  pub world : World
  pub leads : Leads old.front.table opening old.steps world
  pub after : World
  pub makes : Steps old.front.table world step effect after

-- nothing has changed but the room in the trace
pub record IsUnchanged (old new : HistoryView) : Type 0 where
  pub front : new.front ≡ old.front
  pub max_steps : new.max_steps ≡ old.max_steps
  pub steps : new.steps ≡ old.steps
  pub ran : new.ran ≡ old.ran
  pub trace : SameTrace old.trace new.trace

-- ---- refusals

-- in the world of the steps this one is refused so
pub record IsRefused (h : HistoryView) (step : Step) (fault : OwnFault) : Type 0 where
  pub world : World
  pub leads : Leads h.front.table opening h.steps world
  pub refused : Refused world step fault

-- in the world of the steps this one has no fault of its own
pub record HasNoFault (h : HistoryView) (step : Step) : Type 0 where
  pub world : World
  pub leads : Leads h.front.table opening h.steps world
  pub none : (fault : OwnFault) → ¬ Refused world step fault

-- Why a step isn't made: the first that applies of Exhausted, a fault of the step's own, and Memory.
abbrev pub IsFault : HistoryView → Step → StepFault → Type 0
IsFault h step Busy = MayGoOn h step × IsRefused h step world.Busy
IsFault h step NoConn = MayGoOn h step × IsRefused h step world.NoConn
IsFault h step NoPacket = MayGoOn h step × IsRefused h step world.NoPacket
IsFault h step InFlight = MayGoOn h step × IsRefused h step world.InFlight
IsFault h step NoLayer = MayGoOn h step × IsRefused h step world.NoLayer
IsFault h step Exhausted = h.max_steps ≤ length h.steps + kept_back step h.front.out
IsFault h step Memory = MayGoOn h step × HasNoFault h step

-- ---- kinds of step

-- the step leaves the layer alone, is no link's, and answers nothing
abbrev pub IsUnanswered : Step → Type 0
IsUnanswered Open = ⊥
IsUnanswered (Submit conn words) = ⊥
IsUnanswered (Deliver place) = Unit {0}
IsUnanswered Take = ⊥
IsUnanswered (Run starved) = ⊥
IsUnanswered Settle = ⊥
IsUnanswered (Collect conn) = ⊥
IsUnanswered (Close conn) = Unit {0}
IsUnanswered (Repeat place) = ⊥
