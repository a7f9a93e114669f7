-- The system as contracts see it.
use Rattle.std.specs.Prelude.{◌≡◌, ℕ, suc, ◌<◌, ◌≤◌, Bool, true, false, List, [], length, ◌⊎◌}
use Rattle.delivery.specs.Queues.{queue_of}
use Rattle.delivery.specs.Ready.{IsReady}
use Rattle.journal.specs.declared.step.Step.{Step}
use Rattle.placement.specs.Layout.{Layout, IsTable}
use Rattle.shards.specs.Joined.{joined}
use Rattle.skeen_core.specs.declared.packet.Delivered.{Delivered}
use Rattle.system.specs.Halves.{IsAt, count_of, Makes, Keeps}
use Rattle.system.specs.Refusing.{IsFault, RefusesNot, MayFail, HasFailed}
use Rattle.system.specs.declared.effect.Effect.{Effect}
use Rattle.system.specs.declared.fault.StepFault.{StepFault}
use Rattle.system.specs.declared.fault.StepFault.TheVariants.{Exhausted, Failed}
use Rattle.system.specs.declared.halves.Halves.{Halves}
use Rattle.system.specs.declared.stage.Stage.TheVariants.{Free}
use Rattle.world.specs.Steps.{opening}
use Rattle.world.specs.World.{World}
use Rattle.world_laws.specs.Headline.{IsOneThread, rows_of}
use Rattle.execution_order.specs.Entries.{rows_by_stamp}
use Rattle.journal.specs.declared.trace.TheConstants.{GREATEST_STEPS}

-- how many steps may be made, how many were, and the halves
pub record SystemView : Type 0 where
  pub max_steps : ℕ
  pub steps : ℕ
  pub halves : Halves

-- as many steps as were made lead to a world that the halves show
pub record ShowsHistory (s : SystemView) (h : List Step) (w : World) : Type 0 where
  pub at : IsAt s.halves h w
  pub count : length h ≡ s.steps

-- what each system is: unless a worker's start was refused, it shows the world of some history, and its halves have counted
-- its steps
pub record IsSystem (s : SystemView) : Type 0 where
  pub is_table : IsTable s.halves.back.store.table
  pub within : s.steps ≤ s.max_steps
  pub few : s.max_steps ≤ GREATEST_STEPS
  pub shows : s.halves.back.store.failed ≡ false → (h : List Step) × (w : World) × ShowsHistory s h w
  pub counted : s.halves.back.store.failed ≡ false → count_of s.halves ≡ s.steps

-- a new system: nothing has happened
pub record IsNew (t : Layout) (most : ℕ) (s : SystemView) : Type 0 where
  pub max_steps : s.max_steps ≡ most
  pub none : s.steps ≡ 0
  pub table : s.halves.back.store.table ≡ t
  pub lives : s.halves.back.store.failed ≡ false
  pub shows : ShowsHistory s [] opening

-- ---- a step

-- it was made: whatever world the system showed, the step is accepted there, and the system shows the world after it
pub record IsStep (old : SystemView) (step : Step) (effect : Effect) (new : SystemView) : Type 0 where
  pub lived : old.halves.back.store.failed ≡ false
  pub lives : new.halves.back.store.failed ≡ false
  pub left : old.steps < old.max_steps
  pub counted : new.steps ≡ suc old.steps
  pub max_steps : new.max_steps ≡ old.max_steps
  pub makes : Makes old.halves step effect new.halves

-- all is as before but room
pub record IsSameButRoom (old new : SystemView) : Type 0 where
  pub max_steps : new.max_steps ≡ old.max_steps
  pub steps : new.steps ≡ old.steps
  pub halves : Keeps old.halves new.halves

pub record Refuses (old : SystemView) (step : Step) (fault : StepFault) (new : SystemView) : Type 0 where
  pub lived : old.halves.back.store.failed ≡ false
  pub left : old.steps < old.max_steps
  pub why : IsFault old.halves step fault
  pub kept : IsSameButRoom old new

-- steps may be made: no worker's start was refused, and fewer were made than may be
pub record MayGoOn (s : SystemView) : Type 0 where
  pub lives : s.halves.back.store.failed ≡ false
  pub left : s.steps < s.max_steps

-- and the step has no fault of its own
pub record IsAdmitted (s : SystemView) (step : Step) : Type 0 where
  pub goes_on : MayGoOn s
  pub not_refused : RefusesNot s.halves step

-- a worker's start was refused now
pub record Fails (may_refuse : Bool) (old : SystemView) (step : Step) (new : SystemView) : Type 0 where
  pub lived : old.halves.back.store.failed ≡ false
  pub left : old.steps < old.max_steps
  pub may_fail : MayFail may_refuse old.halves step
  pub failed : HasFailed old.halves new.halves

-- why it was not made
abbrev pub IsRefused : Bool → SystemView → Step → StepFault → SystemView → Type 0
IsRefused may_refuse old step Failed new = ((old.halves.back.store.failed ≡ true) × (new ≡ old)) ⊎ Fails may_refuse old step new
IsRefused may_refuse old step Exhausted new =
    (old.halves.back.store.failed ≡ false) × (old.steps ≡ old.max_steps) × (new ≡ old)
IsRefused may_refuse old step fault new = Refuses old step fault new

-- ---- what it shows

-- no packet is under way, no layer is there, and no request is ready
pub record IsQuiet (s : SystemView) : Type 0 where
  pub packets : s.halves.front.multicast.packets ≡ []
  pub layer : s.halves.stage ≡ Free
  pub none_ready : (d : Delivered) → ¬ IsReady (queue_of s.halves.front.multicast.queues) d

-- The headline: whatever history led here, what the shards hold together, and the replies to all that was executed, are
-- those of one thread that runs the executed requests, sorted by their final stamps, on one map.
abbrev pub ObeysOneThread : SystemView → Type 0
ObeysOneThread s = (h : List Step) (w : World) → IsAt s.halves h w →
    IsOneThread (joined s.halves.back.store.maps) (rows_by_stamp (rows_of w.ended))
