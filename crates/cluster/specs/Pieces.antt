-- A piece of the trace that is handed on.
use Rattle.std.specs.Prelude.{◌≡◌, ℕ, List, length}
use Rattle.cluster.specs.Histories.{HistoryView}
use Rattle.cluster.specs.Traces.{AreBehind, IsHandedOn}
use Rattle.journal.specs.declared.step.Step.{Step}

-- its steps, how many were handed on before it, and all steps that it ends
pub record PieceView : Type 0 where
  pub told : List Step
  pub from : ℕ
  pub steps : List Step

abbrev pub IsPiece : PieceView → Type 0
IsPiece p = AreBehind p.from p.steps p.told

-- the piece ends all steps so far; it is handed on, and nothing else changes
pub record HandsOn (old : HistoryView) (p : PieceView) (new : HistoryView) : Type 0 where
  pub told : p.told ≡ old.steps
  pub handed : IsHandedOn (length old.steps) old.trace p.from p.steps new.trace
  pub rest : new ≡ record old { trace = new.trace }
