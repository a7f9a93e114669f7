-- The layers of a history: which ones its steps take, what comes of them when they are run, and what is settled.
use Rattle.std.specs.Prelude.{◌≡◌, ℕ, suc, List, [], ◌∷◌, ◌++◌, map, flat_map}
use Rattle.journal.specs.declared.step.Step.{Step}
use Rattle.journal.specs.declared.step.Step.TheVariants.{Take, Run, Settle}
use Rattle.placement.specs.Layout.{Layout}
use Rattle.skeen_core.specs.declared.packet.Delivered.{Delivered}
use Rattle.world.specs.Steps.{opening, Effect, Steps}
use Rattle.world.specs.World.{World, Ended, Layer, NoneTaken, Taken, HasRun}
use Rattle.world_laws.specs.Good.{all_delivered, taken_in, run_in}

-- The steps lead from one world to the other, and this is what `what` says of them, one behind another: of the world before a
-- step, the step, and the world after it.
abbrev pub Yields : {X : Type 0} → (World → Step → World → List X) → Layout → World → List Step → List X → World → Type 0
Yields what t old [] xs new = (xs ≡ []) × (new ≡ old)
Yields {X} what t old (s ∷ ss) xs new =
    (effect : Effect) × (mid : World) × (rest : List X) × Steps t old s effect mid × Yields what t mid ss rest new
    × (xs ≡ what old s mid ++ rest)

-- ---- what is said of a step

-- the layer that a Take hands out
abbrev pub handed_out : World → Step → World → List (List Delivered)
handed_out old Take new = taken_in new.layer ∷ []
handed_out old step new = []

-- what came of the layer that a Run runs
abbrev pub run_by : World → Step → World → List (List Ended)
run_by old (Run starved) new = run_in new.layer ∷ []
run_by old step new = []

-- what came of the layer that a Settle settles
abbrev pub settled_by : World → Step → World → List (List Ended)
settled_by old Settle new = run_in old.layer ∷ []
settled_by old step new = []

-- ---- how many

-- how many of these are Takes
abbrev pub takes : List Step → ℕ
takes [] = 0
takes (Take ∷ ss) = suc (takes ss)
takes (s ∷ ss) = takes ss

-- how many are Settles
abbrev pub settles : List Step → ℕ
settles [] = 0
settles (Settle ∷ ss) = suc (settles ss)
settles (s ∷ ss) = settles ss

-- ---- the layers of a history

-- the layer that was taken and is not run
abbrev pub not_run : Layer → List (List Delivered)
not_run NoneTaken = []
not_run (Taken ds) = ds ∷ []
not_run (HasRun es) = []

-- what came of the layer that was run and is not settled
abbrev pub not_settled : Layer → List (List Ended)
not_settled NoneTaken = []
not_settled (Taken ds) = []
not_settled (HasRun es) = es ∷ []

-- what came of all of them, one behind another
abbrev pub all_of : List (List Ended) → List Ended
all_of layers = flat_map (λ es. es) layers

-- From the opening the steps lead to the world. Each Run ran what the Take of its number handed out, and each Settle settled
-- what came of the Run of its number. What has ended is what came of the Runs, in their order.
pub record InTurn (t : Layout) (steps : List Step) (w : World) : Type 0 where
  pub handed : List (List Delivered)
  pub ran : List (List Ended)
  pub settled : List (List Ended)
  pub takes : Yields handed_out t opening steps handed w
  pub runs : Yields run_by t opening steps ran w
  pub settles : Yields settled_by t opening steps settled w
  pub of_takes : handed ≡ map all_delivered ran ++ not_run w.layer
  pub of_runs : ran ≡ settled ++ not_settled w.layer
  pub ended : w.ended ≡ all_of ran
