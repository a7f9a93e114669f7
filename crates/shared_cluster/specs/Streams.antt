-- The text of a trace that is made in pieces.
use Rattle.std.specs.List.{AllByRecursion}
use Rattle.std.specs.Prelude.{◌≡◌, ℕ, ◌<◌, ◌≤◌, ◌^◌, List, [], ◌++◌, length, Option, Some, None}
use Rattle.journal.specs.Codes.{StepFits}
use Rattle.journal.specs.TraceText.{lines_text}
use Rattle.journal.specs.declared.step.Step.{Step}
use Rattle.journal.specs.declared.trace.TheConstants.{GREATEST_STEPS}

-- at most how many steps may be made, and those of which lines were made
pub record StreamView : Type 0 where
  pub max : ℕ
  pub steps : List Step

-- the steps of a part that was seen, if one was
abbrev pub steps_of : Option (List Step) → List Step
steps_of None = []
steps_of (Some steps) = steps

-- what each stream is: it knows how many steps have lines, and they can be spelt
pub record IsStream (count : ℕ) (s : StreamView) : Type 0 where
  pub counted : count ≡ length s.steps
  pub few : count < 2 ^ 64
  pub least : 1 ≤ s.max
  pub greatest : s.max ≤ GREATEST_STEPS
  pub fit : AllByRecursion StepFits s.steps

-- more steps have lines, and these are what was appended
pub record GoesOn (old : StreamView) (before : List ℕ) (new : StreamView) (after : List ℕ) : Type 0 where
  pub max : new.max ≡ old.max
  pub more : List Step
  pub steps : new.steps ≡ old.steps ++ more
  pub text : after ≡ before ++ lines_text more
