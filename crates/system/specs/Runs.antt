-- A list of steps, made one after another.
use Rattle.std.specs.Prelude.{◌≡◌, ◌≢◌, ◌<◌, Bool, false, List, [], ◌∷◌, ◌++◌, map, ◌⊎◌, Option, Some, None}
use Rattle.journal.specs.declared.step.Step.{Step}
use Rattle.system.specs.Halves.{IsAt, effect_shown, stored}
use Rattle.system.specs.System.{SystemView, IsStep, IsRefused, ObeysOneThread}
use Rattle.system.specs.declared.effect.Effect.{Effect}
use Rattle.system.specs.declared.fault.StepFault.{StepFault}
use Rattle.system.specs.declared.fault.StepFault.TheVariants.{Memory}
use Rattle.world.specs.Steps.{Makes}
use Rattle.world.specs.World.{World}

-- each step was made where the one before it had led, and has its effect; and after each of them the replies and the
-- contents are those of one thread
abbrev pub AreMade : SystemView → List Step → List Effect → SystemView → Type 0
AreMade old [] effects new = (effects ≡ []) × (new ≡ old)
AreMade old (step ∷ steps) [] new = ⊥
AreMade old (step ∷ steps) (effect ∷ effects) new =
    (mid : SystemView) × IsStep old step effect mid × ObeysOneThread mid × AreMade mid steps effects new

-- the steps as they stand in a history
abbrev pub all_stored : List Step → List Effect → List Step
all_stored [] effects = []
all_stored (step ∷ steps) [] = []
all_stored (step ∷ steps) (effect ∷ effects) = stored step effect ∷ all_stored steps effects

-- whatever world the system showed, these steps are made there one after another with these effects, and then the
-- system shows the world of that history and these steps
abbrev pub LeadsTo : SystemView → List Step → List Effect → SystemView → Type 0
LeadsTo old steps effects new = (h : List Step) (w : World) → IsAt old.halves h w →
    (w' : World) × Makes old.halves.back.store.table w (all_stored steps effects) (map effect_shown effects) w'
    × IsAt new.halves (h ++ all_stored steps effects) w'

-- behind the steps that were made either none is left, or one that was refused, and why
abbrev pub Ends : Bool → SystemView → List Step → Option StepFault → SystemView → Type 0
Ends may_refuse last left None new = (left ≡ []) × (new ≡ last)
Ends may_refuse last left (Some fault) new =
    (step : Step) × (behind : List Step) × (left ≡ step ∷ behind) × IsRefused may_refuse last step fault new

-- the steps up to the first that is refused, if one is, were made
pub record AreRun (may_refuse : Bool) (old : SystemView) (steps : List Step) (effects : List Effect) (fault : Option StepFault)
    (new : SystemView) : Type 0 where
  pub made : List Step
  pub left : List Step
  pub split : steps ≡ made ++ left
  pub last : SystemView
  pub are_made : AreMade old made effects last
  pub leads : LeadsTo old made effects last
  pub ends : Ends may_refuse last left fault new

-- there was no memory for the list of effects: no step was made, though there are some and one more may be made
pub record HasNoRoom (old : SystemView) (steps : List Step) (effects : List Effect) (fault : Option StepFault) (new : SystemView) :
    Type 0 where
  pub some : steps ≢ []
  pub lives : old.halves.back.store.failed ≡ false
  pub left : old.steps < old.max_steps
  pub none_made : effects ≡ []
  pub is_memory : fault ≡ Some Memory
  pub same : new ≡ old

abbrev pub Runs : Bool → SystemView → List Step → List Effect → Option StepFault → SystemView → Type 0
Runs may_refuse old steps effects fault new =
    AreRun may_refuse old steps effects fault new ⊎ HasNoRoom old steps effects fault new
