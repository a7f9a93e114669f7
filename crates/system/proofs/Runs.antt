-- A list of steps, made one after another.
use Rattle.std.proofs.Common.{◌≡◌, ◌≢◌, Bool, List, [], ◌∷◌, ◌++◌, map, Some, None, refl, sym, ◌∙◌, subst, append-nil, append_assoc}
use Rattle.journal.specs.declared.step.Step.{Step}
use Rattle.system.specs.Halves.{IsAt, effect_shown, stored}
use Rattle.system.specs.Runs.{AreMade, AreRun, all_stored, LeadsTo}
use Rattle.system.specs.System.{SystemView, IsStep, IsRefused, ObeysOneThread}
use Rattle.system.specs.declared.effect.Effect.{Effect}
use Rattle.system.specs.declared.fault.StepFault.{StepFault}
use Rattle.world.specs.Steps.{Makes}

-- the steps, and one more behind them
pub made_more : (old mid new : SystemView) (steps : List Step) (effects : List Effect) (step : Step) (effect : Effect) →
    AreMade old steps effects mid → IsStep mid step effect new → ObeysOneThread new →
    AreMade old (steps ++ step ∷ []) (effects ++ effect ∷ []) new
made_more old mid new [] [] step effect made next obeys =
    (new, subst (λ s. IsStep s step effect new) made.1 next, obeys, (refl, refl))
made_more old mid new [] (e ∷ es) step effect made next obeys = absurd (let k = made.0 in cc)
made_more old mid new (s ∷ ss) [] step effect made next obeys = absurd made
made_more old mid new (s ∷ ss) (e ∷ es) step effect made next obeys =
    (made.0, made.1, made.2, made_more made.0 mid new ss es step effect made.3 next obeys)

-- steps that were made lead, in whatever world the system showed, to the world that it shows then
pub leads_by : (old new : SystemView) (steps : List Step) (effects : List Effect) → AreMade old steps effects new →
    LeadsTo old steps effects new
leads_by old new [] [] made h w at' =
    (w, (refl, refl), subst (λ s. IsAt s.halves (h ++ []) w) (sym made.1) (subst (λ l. IsAt old.halves l w) (sym (append-nil h)) at'))
leads_by old new [] (e ∷ es) made h w at' = absurd (let k = made.0 in cc)
leads_by old new (s ∷ ss) [] made h w at' = absurd made
leads_by old new (s ∷ ss) (e ∷ es) made h w at' =
    let mid = made.0 in
    let step = made.1.makes.from_each h w at' in
    let rest = leads_by mid new ss es made.3 (h ++ stored s e ∷ []) step.0 step.2 in (
      rest.0,
      (
        step.0,
        step.1,
        subst (λ t. Makes t step.0 (all_stored ss es) (map effect_shown es) rest.0) made.1.makes.table rest.1,
      ),
      subst (λ l. IsAt new.halves l rest.0) (append_assoc h (stored s e ∷ []) (all_stored ss es)) rest.2,
    )

-- ---- along the list

-- the steps in front were made, and those behind are left
pub record IsUpTo (old : SystemView) (steps : List Step) (effects : List Effect) (left : List Step) (now : SystemView) : Type 0 where
  pub made : List Step
  pub split : steps ≡ made ++ left
  pub are_made : AreMade old made effects now

pub up_to_next : (old now new : SystemView) (steps left : List Step) (effects : List Effect) (step : Step) (effect : Effect) →
    IsUpTo old steps effects (step ∷ left) now → IsStep now step effect new → ObeysOneThread new →
    IsUpTo old steps (effects ++ effect ∷ []) left new
up_to_next old now new steps left effects step effect is next obeys = record {
  made = is.made ++ step ∷ [];
  split = is.split ∙ sym (append_assoc is.made (step ∷ []) left);
  are_made = made_more old now new is.made effects step effect is.are_made next obeys;
}

-- all were made
pub runs_all : (may_refuse : Bool) (old now : SystemView) (steps : List Step) (effects : List Effect) → IsUpTo old steps effects [] now →
    AreRun may_refuse old steps effects None now
runs_all may_refuse old now steps effects is = record {
  made = is.made;
  left = [];
  split = is.split;
  last = now;
  are_made = is.are_made;
  leads = leads_by old now is.made effects is.are_made;
  ends = (refl, refl);
}

-- one was refused
pub runs_to : (may_refuse : Bool) (old now new : SystemView) (steps left : List Step) (effects : List Effect) (step : Step)
    (fault : StepFault) → IsUpTo old steps effects (step ∷ left) now → IsRefused may_refuse now step fault new →
    AreRun may_refuse old steps effects (Some fault) new
runs_to may_refuse old now new steps left effects step fault is refused = record {
  made = is.made;
  left = step ∷ left;
  split = is.split;
  last = now;
  are_made = is.are_made;
  leads = leads_by old now is.made effects is.are_made;
  ends = (step, left, refl, refused);
}

-- the first was refused
pub refused_at_once : (may_refuse : Bool) (old : SystemView) (steps : List Step) (effects : List Effect) (fault : StepFault) → steps ≢ [] →
    effects ≡ [] → ((step : Step) → IsRefused may_refuse old step fault old) → AreRun may_refuse old steps effects (Some fault) old
refused_at_once may_refuse old [] effects fault some none refused = absurd (some refl)
refused_at_once may_refuse old (step ∷ steps) effects fault some none refused =
    runs_to may_refuse old old old (step ∷ steps) steps effects step fault
    (record { made = []; split = refl; are_made = (none, refl) }) (refused step)
