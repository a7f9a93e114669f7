-- A step leaves no choice, and what is refused isn't accepted.
use Rattle.std.specs.Prelude.{◌≡◌, List}
use Rattle.groups.specs.declared.skip_id.SkipId.{SkipId}
use Rattle.journal.specs.declared.step.Step.{Step}
use Rattle.journal.specs.declared.step.Step.TheVariants.{Run}
use Rattle.placement.specs.Layout.{Layout}
use Rattle.world.specs.Steps.{opening, Effect, Ran, Steps, Makes, Leads, OwnFault, Refused}
use Rattle.world.specs.World.{World}

-- a step that is accepted answers one thing, and gives one world
abbrev pub StepsDetermine : Type 0
StepsDetermine = (t : Layout) (old new new' : World) (step : Step) (effect effect' : Effect) →
    Steps t old step effect new → Steps t old step effect' new' → (effect ≡ effect') × (new ≡ new')

-- so a list of steps gives at most one list of answers and one world
abbrev pub HistoriesDetermine : Type 0
HistoriesDetermine = (t : Layout) (old new new' : World) (steps : List Step) (effects effects' : List Effect) →
    Makes t old steps effects new → Makes t old steps effects' new' → (effects ≡ effects') × (new ≡ new')

-- a Run that is told just the names that another one answered, where that was accepted, does what that did and answers the same
abbrev pub RunsAgain : Type 0
RunsAgain = (t : Layout) (steps : List Step) (old new : World) (starved names : List SkipId) → Leads t opening steps old →
    Steps t old (Run starved) (Ran names) new → Steps t old (Run names) (Ran names) new

-- a step that is refused isn't accepted
abbrev pub RefusedIsNotAccepted : Type 0
RefusedIsNotAccepted = (t : Layout) (old new : World) (step : Step) (effect : Effect) (fault : OwnFault) →
    Refused old step fault → ¬ Steps t old step effect new
