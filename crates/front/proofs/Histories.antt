-- A history with one more step.
use Rattle.std.proofs.Common.{List, [], ◌∷◌, ◌++◌}
use Rattle.journal.specs.declared.step.Step.{Step}
use Rattle.order_laws.proofs.Yielding.{yields_of, leads_of, one_more}
use Rattle.order_laws.specs.Layers.{run_by}
use Rattle.placement.specs.Layout.{Layout}
use Rattle.world.specs.Steps.{Effect, Steps, Leads}
use Rattle.world.specs.World.{World}

-- the steps and one more lead to the world after it
pub leads_more : (t : Layout) (old w w' : World) (h : List Step) (s : Step) (e : Effect) → Leads t old h w → Steps t w s e w' →
    Leads t old (h ++ s ∷ []) w'
leads_more t old w w' h s e leads step =
    let ran = yields_of run_by t old w h leads in
    leads_of run_by t old w' (h ++ s ∷ []) _ (one_more run_by t old w w' h ran.0 s e ran.1 step)
