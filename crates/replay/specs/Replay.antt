-- What a replay answers.
use Rattle.std.specs.Prelude.{◌≡◌, ◌≢◌, ℕ, ◌<◌, Bool, true, false, List, [], ◌∷◌, ◌++◌, length}
use Rattle.journal.specs.declared.step.Step.{Step}
use Rattle.journal.specs.declared.step.Step.TheVariants.{Run}
use Rattle.groups.specs.declared.skip_id.SkipId.{SkipId}
use Rattle.placement.specs.Layout.{Layout}
use Rattle.replay.specs.Report.{report_text}
use Rattle.replay.specs.declared.report.Report.{Report}
use Rattle.replay.specs.declared.fault.ReplayFault.{ReplayFault}
use Rattle.replay.specs.declared.fault.ReplayFault.TheVariants as replay
use Rattle.system.specs.Halves.{IsAt}
use Rattle.system.specs.Reads.{table_of, failed}
use Rattle.system.specs.Refusing.{IsRun}
use Rattle.system.specs.System.{SystemView, IsRefused}
use Rattle.system.specs.declared.effect.Effect.{Effect}
use Rattle.system.specs.declared.effect.Effect.TheVariants.{Ran}
use Rattle.system.specs.declared.fault.StepFault.{StepFault}
use Rattle.system.specs.declared.fault.StepFault.TheVariants.{Busy, NoConn, NoPacket, InFlight, NoLayer, Exhausted, Memory, Failed}
use Rattle.world.specs.Steps.{opening, OwnFault, Leads, Refused}
use Rattle.world.specs.Steps as world
use Rattle.world.specs.World.{World}

-- The steps lead to a world, and this is its report: it agrees. A list of steps leads to one world at most.
pub record IsReport (t : Layout) (steps : List Step) (report : Report) : Type 0 where
  pub world : World
  pub leads : Leads t opening steps world
  pub text : report.text.items ≡ report_text world
  pub agrees : report.agree ≡ true

-- ---- refusals

-- the step has this fault of its own in this world; or it is a Run that has none, for which a worker could not be started
abbrev pub IsFaultIn : Bool → World → Step → StepFault → Type 0
IsFaultIn may_refuse w step Busy = Refused w step world.Busy
IsFaultIn may_refuse w step NoConn = Refused w step world.NoConn
IsFaultIn may_refuse w step NoPacket = Refused w step world.NoPacket
IsFaultIn may_refuse w step InFlight = Refused w step world.InFlight
IsFaultIn may_refuse w step NoLayer = Refused w step world.NoLayer
IsFaultIn may_refuse w step Failed = (may_refuse ≡ true) × IsRun step × ((own : OwnFault) → ¬ Refused w step own)
IsFaultIn may_refuse w step Exhausted = ⊥
IsFaultIn may_refuse w step Memory = ⊥

-- why a step isn't accepted in this world, behind so many steps: none may be made any more; or some may, and it has this
-- fault
abbrev pub IsRefusal : Bool → ℕ → ℕ → World → Step → StepFault → Type 0
IsRefusal may_refuse most made w step Exhausted = made ≡ most
IsRefusal may_refuse most made w step fault = (made < most) × IsFaultIn may_refuse w step fault

-- the steps before this index are accepted, and the one that stands there isn't
pub record IsRefusedAt (may_refuse : Bool) (t : Layout) (most : ℕ) (steps : List Step) (index : ℕ) (fault : StepFault) : Type 0 where
  pub before : List Step
  pub step : Step
  pub behind : List Step
  pub split : steps ≡ before ++ step ∷ behind
  pub at : index ≡ length before
  pub world : World
  pub leads : Leads t opening before world
  pub why : IsRefusal may_refuse most (length before) world step fault

abbrev pub IsFaultOf : Bool → Layout → ℕ → List Step → ReplayFault → Type 0
IsFaultOf may_refuse t most steps (replay.Step index fault) = IsRefusedAt may_refuse t most steps index fault
IsFaultOf may_refuse t most steps replay.Memory = Unit {0}

-- ---- on the way

-- what a Run names; nothing of another step
abbrev pub named_in : Step → List SkipId
named_in (Run starved) = starved
named_in step = []

-- the names of what starved at a step: at a Run
abbrev pub starved_at : Effect → List SkipId
starved_at (Ran starved) = starved
starved_at effect = []

-- the fault of a step with this index: it is the system's, and not want of memory
abbrev pub IsRefusalOf : Bool → SystemView → Step → ℕ → SystemView → ReplayFault → Type 0
IsRefusalOf may_refuse old step index new (replay.Step at fault) = (at ≡ index) × (fault ≢ Memory) × IsRefused may_refuse old step fault new
IsRefusalOf may_refuse old step index new replay.Memory = Unit {0}

-- so many steps were made, and lead to a world that the system shows
pub record StandsAt (t : Layout) (most : ℕ) (made : List Step) (s : SystemView) : Type 0 where
  pub world : World
  pub shows : IsAt s.halves made world
  pub table : table_of s ≡ t
  pub lives : failed s ≡ false
  pub count : s.steps ≡ length made
  pub limit : s.max_steps ≡ most
