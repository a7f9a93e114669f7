-- A step that takes no layer and settles none: it is the world's own, and the front shows the world after it.
use Rattle.std.proofs.Common.{◌≡◌, ℕ, [], ◌∷◌, ◌++◌, map, Option, refl, sym, ap, ◌∙◌, subst, append-nil, arith, length-append}
use Rattle.cluster.specs.Histories.{HistoryView, IsTrueIn, IsMade, MayGoOn}
use Rattle.front.specs.Fronts.{FrontView, FrontIsAt, HasNotRun}
use Rattle.front.specs.Making.{Makes}
use Rattle.cluster.specs.declared.tape.Tape.{Tape}
use Rattle.journal.specs.declared.step.Step.{Step}
use Rattle.journal.specs.declared.step.Step.TheVariants.{Run}
use Rattle.order_laws.proofs.Layers.{others_leave_layers}
use Rattle.order_laws.proofs.Yielding as yielding
use Rattle.order_laws.specs.Layers.{Yields, run_by}
use Rattle.order_laws.specs.Runs.{LeavesLayers}
use Rattle.order_laws.specs.Truth.{AreRunsOf}
use Rattle.serial_store.specs.Serial.{layer_of}
use Rattle.world.specs.Steps.{opening, Effect, Steps, Leads}
use Rattle.world.specs.World.{World}

none_run : (w w' : World) (s : Step) → LeavesLayers s → run_by w s w' ≡ []
none_run w w' (Run starved) plain = absurd plain
none_run w w' s plain = refl

module _ (h : HistoryView) (w : World) (is : IsTrueIn h w) where
  -- ---- the world after it

  module _ (step : Step) (plain : LeavesLayers step) (effect : Effect) (new : FrontView) (makes : Makes h.front step effect new) where
    pub record Next : Type 0 where
      pub world : World
      pub does : Steps h.front.table w step effect world
      pub at : FrontIsAt new (h.steps ++ step ∷ []) world

    pub next : Next
    next =
        let from = makes.from_each h.steps w is.at in record { world = from.0; does = from.1; at = from.2 }

    pub leads_on : Leads h.front.table opening (h.steps ++ step ∷ []) next.world
    leads_on = subst (λ s. Leads s opening (h.steps ++ step ∷ []) next.world) makes.is_step.table next.at.leads

    module _ (most : ℕ) (trace : Option Tape) where
      abbrev pub later : HistoryView
      later = record { front = new; max_steps = most; steps = h.steps ++ step ∷ []; ran = h.ran; trace = trace }

      pub goes_on : IsTrueIn later next.world
      goes_on =
          let t = h.front.table in
          let counts = makes.is_step in
          let keeps = others_leave_layers t w next.world step effect plain next.does in
          record {
            at = next.at;
            not_run = subst HasNotRun (sym keeps.0) is.not_run;
            ran = subst (λ s. AreRunsOf s (h.steps ++ step ∷ []) next.world (map (layer_of s) h.ran)) (sym counts.table) (record {
              ended = is.ran.ended;
              runs = subst (λ l. Yields run_by t opening (h.steps ++ step ∷ []) l next.world)
                  (ap (λ l. is.ran.ended ++ l) (none_run w next.world step plain) ∙ append-nil is.ran.ended)
                  (yielding.one_more run_by t opening w next.world h.steps is.ran.ended step effect is.ran.runs next.does);
              each = is.ran.each;
            });
            layers = counts.layers ∙ is.layers;
            counted = omega (arith, counts.steps, counts.layers, is.counted, length-append h.steps (step ∷ []));
          }

      pub is_made : MayGoOn h step → most ≡ h.max_steps → IsMade h step effect later
      is_made left same = record {
        left = left;
        max_steps = same;
        steps = refl;
        table = makes.is_step.table;
        ran = refl;
        world = w;
        leads = is.at.leads;
        after = next.world;
        makes = next.does;
      }
