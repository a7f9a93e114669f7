-- What is made of a beginning of a trace's text.
use Rattle.std.specs.Prelude.{◌≡◌, ℕ, ◌-◌, ◌^◌, ◌<◌, ◌≤◌, ◌==◌, Bool, false, if◌then◌else◌, List, [], ◌∷◌, ◌++◌, length, codes}
use Rattle.std.specs.List.{flat_map, starts_with, AllByRecursion}
use Rattle.journal.specs.TraceText.{HasNoLf, Spells, ended, end_line}
use Rattle.journal.specs.declared.step.Step.{Step}
use Rattle.replay.specs.declared.beginning.Beginning.{Beginning}

-- the last of these lines begins as a trace's last one
abbrev pub has_end : List (List ℕ) → Bool
has_end [] = false
has_end (line ∷ []) = starts_with (λ a b. a == b) line (codes "end ")
has_end (line ∷ next ∷ lines) = has_end (next ∷ lines)

-- the lines, and behind them, if there is no end, one that counts all but the two of the head
abbrev pub with_end : List (List ℕ) → List (List ℕ)
with_end lines = if has_end lines then lines else lines ++ end_line (length lines - 2) ∷ []

-- the text is whole lines and then the rest
pub record IsCut (text : List ℕ) (lines : List (List ℕ)) (rest : List ℕ) : Type 0 where
  pub split : text ≡ flat_map ended lines ++ rest
  pub no_lf : AllByRecursion HasNoLf lines
  pub rest_no_lf : HasNoLf rest

-- its lines with an end are the text that is made of it, and the rest is left out
pub record IsBeginning (text : List ℕ) (made : Beginning) : Type 0 where
  pub lines : List (List ℕ)
  pub rest : List ℕ
  pub cut : IsCut text lines rest
  pub whole : made.text.items ≡ flat_map ended (with_end lines)
  pub steps : made.steps ≡ length (with_end lines) - 3
  pub left_out : made.left_out ≡ length rest

-- what is made of a text with which one begins that spells a trace, and whose first two lines are whole, spells the trace of
-- the first of its steps
abbrev pub BeginningSpells : Type 0
BeginningSpells = (text behind : List ℕ) (max : ℕ) (steps : List Step) (made : Beginning) → Spells (text ++ behind) max steps
    → length steps < 2 ^ 64 → (b : IsBeginning text made) → 2 ≤ length b.lines
    → (front : List Step) × (back : List Step) × (steps ≡ front ++ back) × (made.steps ≡ length front) × Spells made.text.items max front

-- ---- on the way

-- the text has so many lines, of which the last is an end or not, and so many bytes behind them
pub record AreLinesOf (text : List ℕ) (count : ℕ) (is_end : Bool) (left_out : ℕ) : Type 0 where
  pub lines : List (List ℕ)
  pub rest : List ℕ
  pub cut : IsCut text lines rest
  pub counted : count ≡ length lines
  pub ends : is_end ≡ has_end lines
  pub left : left_out ≡ length rest
