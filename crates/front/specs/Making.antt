-- What the calls of a front do, in whatever world it was at.
use Rattle.std.specs.Prelude.{◌≡◌, ◌+◌, List, [], ◌∷◌, ◌++◌, option_map}
use Rattle.front.specs.Connections.{outcome_shown}
use Rattle.front.specs.Fronts.{FrontView, FrontIsAt}
use Rattle.front.specs.declared.effect.Effect as ours
use Rattle.front.specs.declared.effect.Effect.TheVariants as effect
use Rattle.journal.specs.declared.step.Step.{Step}
use Rattle.journal.specs.declared.step.Step.TheVariants.{Run}
use Rattle.world.specs.Steps.{Effect, Steps, Opened, Submitted, Collected, Made}
use Rattle.world.specs.World.{World}

-- a step more was made, and nothing was settled
pub record IsStep (old new : FrontView) : Type 0 where
  pub table : new.table ≡ old.table
  pub steps : new.steps ≡ old.steps + 1
  pub layers : new.layers ≡ old.layers

-- in each world that the front was at the step is accepted and answers so, and the front is at the world after it
pub record Makes (old : FrontView) (step : Step) (effect : Effect) (new : FrontView) : Type 0 where
  pub is_step : IsStep old new
  pub from_each : (h : List Step) (w : World) → FrontIsAt old h w →
      (w' : World) × Steps old.table w step effect w' × FrontIsAt new (h ++ step ∷ []) w'

-- a front is at the same when its layer is run: nobody tells it
abbrev pub SeesNoRun : FrontView → Type 0
SeesNoRun f = (h : List Step) (w : World) → FrontIsAt f h w →
    (starved : List _) (effect : Effect) (w' : World) → Steps f.table w (Run starved) effect w' →
    FrontIsAt f (h ++ Run starved ∷ []) w'

-- ---- by what the step says

-- what a step answers that leaves the layer alone, as the world says it
abbrev pub effect_shown : ours.Effect → Effect
effect_shown (effect.Opened conn) = Opened conn.0
effect_shown (effect.Submitted id) = Submitted id
effect_shown (effect.Collected outcome) = Collected (option_map outcome_shown outcome)
effect_shown effect.Made = Made
