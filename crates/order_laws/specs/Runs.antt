-- What came of the layers of a history.
use Rattle.std.specs.Prelude.{◌≡◌, ℕ, ◌<◌, ◌≤◌, List, ◌++◌, length, slice_get, Some}
use mathlib.Core.List.{IsPrefix}
use Rattle.journal.specs.declared.step.Step.{Step}
use Rattle.journal.specs.declared.step.Step.TheVariants.{Take, Run, Settle}
use Rattle.order_laws.specs.Layers.{Yields, run_by, settled_by, settles, InTurn}
use Rattle.placement.specs.Layout.{Layout}
use Rattle.world.specs.Steps.{opening, Effect, Steps, Leads}
use Rattle.world.specs.World.{World, Ended}

-- the step takes no layer, runs none and settles none
abbrev pub LeavesLayers : Step → Type 0
LeavesLayers Take = ⊥
LeavesLayers (Run starved) = ⊥
LeavesLayers Settle = ⊥
LeavesLayers step = Unit {0}

-- ---- the laws

-- such a step leaves the layer and what has ended as they were
abbrev pub OthersLeaveLayers : Type 0
OthersLeaveLayers = (t : Layout) (old new : World) (step : Step) (effect : Effect) → LeavesLayers step →
    Steps t old step effect new → (new.layer ≡ old.layer) × (new.ended ≡ old.ended)

-- what is run and what is settled in each history is what it took, in turn
abbrev pub LayersAreInTurn : Type 0
LayersAreInTurn = (t : Layout) (steps : List Step) (w : World) → Leads t opening steps w → InTurn t steps w

-- there is one list of what came of the layers that were settled, one of them for each Settle
abbrev pub SettledAreCounted : Type 0
SettledAreCounted = (t : Layout) (steps : List Step) (w : World) (settled : List (List Ended)) →
    Yields settled_by t opening steps settled w → length settled ≡ settles steps

-- what these steps yield begins what more steps do
abbrev pub Begins : ((World → Step → World → List (List Ended))) → Type 0
Begins what = (t : Layout) (steps more : List Step) (old new : World) (layers all : List (List Ended)) →
    Yields what t opening steps layers old → Yields what t opening (steps ++ more) all new → IsPrefix layers all

-- what came of the layers that were run, or settled, stays as steps are added
abbrev pub RunsStay : Type 0
RunsStay = Begins run_by

abbrev pub SettledStay : Type 0
SettledStay = Begins settled_by

-- of two histories that begin one list what was run in the one that ran fewer layers begins what was run in the other
abbrev pub RunsAgree : Type 0
RunsAgree = (t : Layout) (one other all : List Step) (v w x : World) (few more : List (List Ended)) → Leads t opening all x →
    IsPrefix one all → IsPrefix other all → Yields run_by t opening one few v → Yields run_by t opening other more w →
    length few ≤ length more → IsPrefix few more

-- a request that its connection had not submitted yet where this much had ended ends behind all of that
abbrev pub LaterRunBehind : Type 0
LaterRunBehind = (t : Layout) (seen more : List Step) (old new : World) → Leads t opening seen old →
    Leads t opening (seen ++ more) new → (place : ℕ) (e : Ended) → slice_get new.ended place ≡ Some e →
    old.seq e.id.conn.0 < e.id.seq → length old.ended ≤ place
