-- A trace that may be kept, or none.
use Rattle.std.specs.Prelude.{◌≡◌, ◌≢◌, ℕ, ◌+◌, ◌≤◌, List, [], ◌∷◌, ◌++◌, length, Option, Some, None}
use Rattle.cluster.specs.declared.tape.Tape.{Tape}
use Rattle.journal.specs.Codes.{step_size, steps_size}
use Rattle.journal.specs.declared.step.Step.{Step}

-- these are the steps behind so many
pub record AreBehind (sent : ℕ) (rest steps : List Step) : Type 0 where
  pub before : List Step
  pub split : steps ≡ before ++ rest
  pub counted : sent ≡ length before

-- where one is kept it has these steps but for those that were handed on, and at most so many may be made
abbrev pub IsTraceOf : Option Tape → List Step → ℕ → Type 0
IsTraceOf None steps most = Unit {0}
IsTraceOf (Some t) steps most = AreBehind t.sent t.rest.steps steps × (t.rest.max ≡ most)

-- none is kept, or some of it was handed on
abbrev pub IsNotWhole : Option Tape → Type 0
IsNotWhole None = Unit {0}
IsNotWhole (Some t) = t.sent ≢ 0

-- so many bytes more lie in it without memory, where one is kept
abbrev pub HasRoom : ℕ → Option Tape → Type 0
HasRoom bytes None = Unit {0}
HasRoom bytes (Some t) = bytes ≤ t.rest.room

-- there is as much room as there was
abbrev pub KeepsRoom : Option Tape → Option Tape → Type 0
KeepsRoom old new = (bytes : ℕ) → HasRoom bytes old → HasRoom bytes new

-- the same steps are kept, or still none
abbrev pub SameTrace : Option Tape → Option Tape → Type 0
SameTrace None None = Unit {0}
SameTrace None (Some new) = ⊥
SameTrace (Some old) None = ⊥
SameTrace (Some old) (Some new) = (new.rest.max ≡ old.rest.max) × (new.rest.steps ≡ old.rest.steps) × (new.sent ≡ old.sent)

-- the steps are put behind the others, where they are kept
abbrev pub ArePushed : Option Tape → List Step → Option Tape → Type 0
ArePushed None steps None = Unit {0}
ArePushed None steps (Some new) = ⊥
ArePushed (Some old) steps None = ⊥
ArePushed (Some old) steps (Some new) =
    (new.rest.max ≡ old.rest.max) × (new.rest.steps ≡ old.rest.steps ++ steps) × (new.sent ≡ old.sent)

abbrev pub IsPushed : Option Tape → Step → Option Tape → Type 0
IsPushed old step new = ArePushed old (step ∷ []) new

-- how many bytes the steps take that are kept, which is the place at which the next one begins
abbrev pub place_of : Option Tape → ℕ
place_of None = 0
place_of (Some t) = steps_size t.rest.steps

-- no more than the bytes of a step were taken from the room
abbrev pub LeavesRoom : Option Tape → Step → Option Tape → Type 0
LeavesRoom None step new = Unit {0}
LeavesRoom (Some old) step None = ⊥
LeavesRoom (Some old) step (Some new) = old.rest.room ≤ new.rest.room + step_size step

-- of so many that were made, the steps that were kept behind so many were handed on, and none is kept now
abbrev pub IsHandedOn : ℕ → Option Tape → ℕ → List Step → Option Tape → Type 0
IsHandedOn made None from piece new = ⊥
IsHandedOn made (Some old) from piece None = ⊥
IsHandedOn made (Some old) from piece (Some new) =
    (from ≡ old.sent) × (piece ≡ old.rest.steps) × (new.sent ≡ made) × (new.rest.steps ≡ []) × (new.rest.max ≡ old.rest.max)
