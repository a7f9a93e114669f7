-- How far a trace's text is read.
use Rattle.std.specs.Prelude.{◌≡◌, ◌≤◌, ℕ, List, ◌∷◌, ◌++◌}
use Rattle.std.specs.List.{flat_map, AllZip, AllByRecursion}
use Rattle.journal.specs.declared.step.Step.{Step}
use Rattle.journal.specs.TraceText.{IsVersion, first_line, max_line, ended, IsStepLine, HasNoLf}
use Rattle.journal.specs.declared.trace.TheConstants.{GREATEST_STEPS}

-- the text is the first lines of a trace with these steps, in this version, and then the rest
pub record IsRead (text rest : List ℕ) (version max : ℕ) (steps : List Step) : Type 0 where
  pub known : IsVersion version
  pub least : 1 ≤ max
  pub greatest : max ≤ GREATEST_STEPS
  pub body : List (List ℕ)
  pub each : AllZip (IsStepLine version) body steps
  pub no_lf : AllByRecursion HasNoLf (first_line version ∷ max_line max ∷ body)
  pub split : text ≡ flat_map ended (first_line version ∷ max_line max ∷ body) ++ rest

-- what is left begins with this line, which ends at its first LF, and then comes what stands behind
pub record IsLine (rest line behind : List ℕ) : Type 0 where
  pub split : rest ≡ ended line ++ behind
  pub no_lf : HasNoLf line
