-- When a step is refused.
use Rattle.std.specs.Prelude.{◌≡◌, ◌<◌, Bool, true, List, length}
use Rattle.journal.specs.declared.step.Step.{Step}
use Rattle.journal.specs.declared.step.Step.TheVariants.{Run, Settle, Collect, Close}
use Rattle.system.specs.Halves.{IsAt, count_of}
use Rattle.system.specs.declared.fault.StepFault.{StepFault}
use Rattle.system.specs.declared.fault.StepFault.TheVariants.{Busy, NoConn, NoPacket, InFlight, NoLayer, Exhausted, Memory, Failed}
use Rattle.system.specs.declared.halves.Halves.{Halves}
use Rattle.world.specs.Steps.{OwnFault, Refused}
use Rattle.world.specs.Steps as world
use Rattle.world.specs.World.{World}
use Rattle.journal.specs.declared.trace.TheConstants.{GREATEST_STEPS}

-- some history led here, of so few steps that no number has grown too large, and they were counted
pub record Lives (p : Halves) : Type 0 where
  pub history : List Step
  pub world : World
  pub at : IsAt p history world
  pub few : length history < GREATEST_STEPS
  pub counted : count_of p ≡ length history

-- in each world that the halves show the step is refused so
abbrev pub Refuses : Halves → Step → OwnFault → Type 0
Refuses p step fault = (h : List Step) (w : World) → IsAt p h w → Refused w step fault

-- in none of them does the step have a fault of its own
abbrev pub RefusesNot : Halves → Step → Type 0
RefusesNot p step = (h : List Step) (w : World) → IsAt p h w → (fault : OwnFault) → ¬ Refused w step fault

-- the step may want memory: one that gives back what is there wants none
abbrev pub WantsMemory : Step → Type 0
WantsMemory Settle = ⊥
WantsMemory (Collect conn) = ⊥
WantsMemory (Close conn) = ⊥
WantsMemory step = Unit {0}

-- why the halves refuse the step
abbrev pub IsFault : Halves → Step → StepFault → Type 0
IsFault p step Busy = Refuses p step world.Busy
IsFault p step NoConn = Refuses p step world.NoConn
IsFault p step NoPacket = Refuses p step world.NoPacket
IsFault p step InFlight = Refuses p step world.InFlight
IsFault p step NoLayer = Refuses p step world.NoLayer
IsFault p step Memory = WantsMemory step × RefusesNot p step
IsFault p step Exhausted = ⊥
IsFault p step Failed = ⊥

abbrev pub IsRun : Step → Type 0
IsRun (Run skip) = Unit {0}
IsRun step = ⊥

-- a worker's start may be refused: by a Run that has no fault of its own, and by workers that may start a thread
pub record MayFail (may_refuse : Bool) (p : Halves) (step : Step) : Type 0 where
  pub refusable : may_refuse ≡ true
  pub runs : IsRun step
  pub not_refused : RefusesNot p step

-- a worker's start was refused: of shards, layer and connections nothing is said, and the rows stay
pub record HasFailed (old new : Halves) : Type 0 where
  pub failed : new.back.store.failed ≡ true
  pub table : new.back.store.table ≡ old.back.store.table
  pub rows : new.back.rows ≡ old.back.rows
