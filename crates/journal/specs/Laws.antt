-- What the definition of a trace's text gives for every text.
use Rattle.std.specs.List.{AllByRecursion}
use Rattle.std.specs.Prelude.{◌≡◌, ℕ, ◌<◌, ◌≤◌, ◌^◌, ◌++◌, List, length}
use Rattle.journal.specs.Codes.{StepFits}
use Rattle.journal.specs.declared.step.Step.{Step}
use Rattle.journal.specs.TraceText.{Spells, IsBad, head_text, lines_text, ended, end_line}
use Rattle.journal.specs.declared.trace.TheConstants.{GREATEST_STEPS}

-- a text spells one trace at most, whatever the version
abbrev pub SpellsOne : Type 0
SpellsOne = (text : List ℕ) (max max' : ℕ) (steps steps' : List Step) → Spells text max steps → Spells text max' steps' → (max ≡ max') ×
    (steps ≡ steps')

-- and is of one version at most
abbrev pub OneVersion : Type 0
OneVersion = (text : List ℕ) (max max' : ℕ) (steps steps' : List Step) (a : Spells text max steps) (b : Spells text max' steps')
    → a.version ≡ b.version

-- one line at most is at fault
abbrev pub OneFault : Type 0
OneFault = (text : List ℕ) (line line' : ℕ) → IsBad text line → IsBad text line' → line ≡ line'

-- and none of a text that spells a trace
abbrev pub NoFaultOfTrace : Type 0
NoFaultOfTrace = (text : List ℕ) (max line : ℕ) (steps : List Step) → Spells text max steps → IsBad text line → ⊥

-- what stands before the steps, a line for each of them, and the last line spell the trace
abbrev pub PiecesSpell : Type 0
PiecesSpell = (max : ℕ) (steps : List Step) → 1 ≤ max → max ≤ GREATEST_STEPS → length steps < 2 ^ 64 → AllByRecursion StepFits steps
    → Spells (head_text max ++ (lines_text steps ++ ended (end_line (length steps)))) max steps
