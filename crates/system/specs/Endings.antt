-- That nothing is left behind, that something can be done until then, and that there is an end to it.
use Rattle.std.specs.Prelude.{◌≡◌, ◌≢◌, ℕ, ◌≤◌, Bool, List, [], ◌⊎◌, None}
use Rattle.journal.specs.Views.{RowView}
use Rattle.journal.specs.declared.step.Step.{Step}
use Rattle.journal.specs.declared.step.Step.TheVariants.{Deliver, Take, Run, Settle}
use Rattle.placement.specs.Layout.{Layout}
use Rattle.groups.specs.Order.{In}
use Rattle.groups.specs.declared.request.RequestId.{RequestId}
use Rattle.groups.specs.declared.skip_id.SkipId.{SkipId}
use Rattle.groups.specs.declared.skip_id.SkipId.TheVariants.{Whole}
use Rattle.sessions.specs.declared.session.Session.{Session}
use Rattle.tasks.specs.Tasks.{Task, task_groups}
use Rattle.system.specs.Faults.{own_fault}
use Rattle.system.specs.Halves.{IsAt}
use Rattle.system.specs.Reads.{table_of, rows_of, starved_of}
use Rattle.system.specs.Refusing.{RefusesNot}
use Rattle.system.specs.System.{SystemView, IsRefused}
use Rattle.system.specs.declared.fault.StepFault.{StepFault}
use Rattle.system.specs.declared.stage.Progress.{Progress}
use Rattle.system.specs.declared.stage.Progress.TheVariants.{Free, Taken, HasRun}
use Rattle.world.specs.Steps.{opening, Effect, Makes}
use Rattle.world.specs.World.{World}
use Rattle.world_laws.specs.Bound.{turns, allowances}
use Rattle.world_laws.specs.Collecting.{ComesTo, WasSubmitted}
use Rattle.world_laws.specs.Good.{Named}

-- ---- what has ended

-- the request was executed, and has its row
abbrev pub IsExecuted : SystemView → RequestId → Type 0
IsExecuted s i = (row : RowView) × In row (rows_of s) × (row.id ≡ i)

-- it starved as a whole
abbrev pub HasStarved : SystemView → RequestId → Type 0
HasStarved s i = In (Whole i) (starved_of s)

-- with this session the words come to a task that addresses groups
abbrev pub AsksGroups : Layout → Session → List (List ℕ) → Type 0
AsksGroups t session words = (task : Task) × ComesTo task session words × (task_groups t task ≢ [])

-- whatever history led here, each request that it submitted to groups has ended: it was executed, or it starved
abbrev pub EachHasEnded : SystemView → Type 0
EachHasEnded s = (h : List Step) (w : World) → IsAt s.halves h w → (effects : List Effect) → Makes (table_of s) opening h effects w →
    (i : RequestId) → WasSubmitted (AsksGroups (table_of s)) i h effects → Named w.ended i × (IsExecuted s i ⊎ HasStarved s i)

-- ---- what can be done

-- No world that the system shows refuses the step; so whatever `step` refuses it for is no fault of the step's own: it
-- is Exhausted, Memory or Failed.
pub record MayBeMade (s : SystemView) (step : Step) : Type 0 where
  pub not_refused : RefusesNot s.halves step
  pub no_own_fault : (may_refuse : Bool) (fault : StepFault) (new : SystemView) → IsRefused may_refuse s step fault new →
      own_fault fault ≡ None

-- a layer that is there can be run or settled; else one can be taken, or the oldest packet brought
abbrev pub SomeMayBeMade : Progress → SystemView → Type 0
SomeMayBeMade Free s = MayBeMade s Take ⊎ MayBeMade s (Deliver 0)
SomeMayBeMade Taken s = (starved : List SkipId) → MayBeMade s (Run starved)
SomeMayBeMade HasRun s = MayBeMade s Settle

-- ---- how many steps there can be

-- whatever history led here, it has no more steps that bring packets, take layers, run or settle them than its
-- submitted requests and repeated packets allow: k * k + 3 for each request of k groups, and 1 for each packet
abbrev pub TurnsAreFew : SystemView → Type 0
TurnsAreFew s = (h : List Step) (w : World) → IsAt s.halves h w → turns h ≤ allowances (table_of s) h
