-- The steps that the front makes are steps of the world, and what it refuses the world refuses.
use Rattle.std.proofs.Common.{◌≡◌, ◌≢◌, List, [], ◌∷◌, ◌++◌, refl, sym, ap, ◌∙◌, subst, arith, append-nil, Result, Ok, Err}
use Rattle.std.specs.Prelude.{IfErr, OnErr}
use Rattle.front.specs.Fronts.{FrontView, FrontIsAt}
use Rattle.front.specs.Making as making
use Rattle.front.specs.Refusing as refusing
use Rattle.front.specs.Refusing.{MayStep}
use Rattle.front.specs.Settling.{MaySettle}
use Rattle.front.specs.Taking.{Takes}
use Rattle.front.specs.declared.effect.Effect as fronts
use Rattle.front.specs.declared.effect.Effect.TheVariants as fronts_effect
use Rattle.front.specs.declared.fault.FrontFault.{FrontFault}
use Rattle.front.specs.declared.fault.FrontFault.TheVariants as front_fault
use Rattle.groups.specs.declared.skip_id.SkipId.{SkipId}
use Rattle.journal.specs.Views.{RowView}
use Rattle.journal.specs.declared.step.Step.{Step}
use Rattle.journal.specs.declared.step.Step.TheVariants.{Take, Run, Settle, Collect, Close}
use Rattle.layer_planner.specs.declared.job.Job.{Job}
use Rattle.layer_results.specs.declared.done.DoneRow.{DoneRow}
use Rattle.order_laws.specs.Runs.{LeavesLayers}
use Rattle.system.proofs.Rest.{is_rest, keeps_asked, stage_same, store_same}
use Rattle.system.specs.Faults.{effect_of, of_front}
use Rattle.system.specs.Halves.{IsAt, ShowsStage, Starves, Makes, Keeps, stored, effect_shown, ran_in}
use Rattle.system.specs.Refusing.{Lives, RefusesNot, WantsMemory, IsFault}
use Rattle.system.specs.declared.effect.Effect.{Effect}
use Rattle.system.specs.declared.effect.Effect.TheVariants.{Made}
use Rattle.system.specs.declared.fault.StepFault.{StepFault}
use Rattle.system.specs.declared.fault.StepFault.TheVariants.{Failed}
use Rattle.system.specs.declared.halves.Halves.{Halves}
use Rattle.system.specs.declared.stage.Stage.{Stage}
use Rattle.system.specs.declared.stage.Stage.TheVariants as stage
use Rattle.front.specs.Layers.{AreRows, ShowsStore}
use Rattle.world.specs.Steps.{opening, Leads, Steps, starved_among, taken}
use Rattle.world.specs.Steps as world
use Rattle.world.specs.World.{World, NoneTaken}
use Rattle.world_laws.proofs.Worlds.{good_world}

-- ---- where the front is

-- in a world that the halves show the front is
pub front_at : (p : Halves) (h : List Step) (w : World) → IsAt p h w → FrontIsAt p.front h w
front_at p h w at' = record {
  leads = subst (λ t. Leads t opening h w) (sym at'.shows.table) at'.leads;
  shows = record { connections = at'.shows.connections; multicast = at'.shows.multicast; out = at'.shows.out };
}

-- the halves show a world where the front is, and the others show it
pub is_at : (p : Halves) (h : List Step) (w : World) → p.front.table ≡ p.back.store.table → FrontIsAt p.front h w →
    ShowsStore p.back.store.table p.back.store w → ShowsStage p.stage w → AreRows w.ended p.back.rows →
    p.starved.items ≡ starved_among w.ended → IsAt p h w
is_at p h w table front store stage rows starved = record {
  leads = subst (λ t. Leads t opening h w) table front.leads;
  shows = record {
    connections = front.shows.connections;
    multicast = front.shows.multicast;
    out = front.shows.out;
    table = table;
    store = store;
    stage = stage;
    rows = rows;
    starved = starved;
  };
}

-- no number of the front has grown too large
pub may_step : (p : Halves) → Lives p → MayStep p.front
may_step p lives = let few = lives.few in let counted = lives.counted in omega arith

pub may_settle : (p : Halves) → Lives p → (done : List DoneRow) → p.stage ≡ stage.HasRun done → MaySettle p.front
may_settle p lives done has_run =
    let few = lives.few in
    let counted = lives.counted in
    let one : ran_in p.stage ≡ 1 = ap ran_in has_run in
    omega arith

-- no row more
pub no_more : (rows : List RowView) → (more : List RowView) × (rows ≡ rows ++ more)
no_more rows = ([], sym (append-nil rows))

-- ---- a step that leaves the layer alone

-- it is stored as it was given, and starves nothing
stored_same : (p : Halves) (s : Step) (e : Effect) → LeavesLayers s → (stored s e ≡ s) × ((w : World) → Starves p s e w)
stored_same p Take e leaves = absurd leaves
stored_same p (Run starved) e leaves = absurd leaves
stored_same p Settle e leaves = absurd leaves
stored_same p s e leaves = (refl, λ w. tt)

-- the front makes the step where it is
abbrev pub FrontSteps : Halves → FrontView → Step → world.Effect → Type 0
FrontSteps old f step effect = (h : List Step) (w : World) → IsAt old h w →
    (w' : World) × Steps old.front.table w step effect w' × FrontIsAt f (h ++ step ∷ []) w'

module _ (old : Halves) (f : FrontView) (step : Step) (leaves : LeavesLayers step) (counts : making.IsStep old.front f) where
  abbrev fronted : Halves
  fronted = record old { front = f }

  -- so do the halves
  steps_so : (effect : world.Effect) → FrontSteps old f step effect → (h : List Step) (w : World) → IsAt old h w →
      (w' : World) × Steps old.back.store.table w step effect w' × IsAt fronted (h ++ step ∷ []) w'
  steps_so effect makes h w at' =
      let next = makes h w at' in
      let w' = next.0 in
      let rest = is_rest old.front.table w w' step effect leaves next.1 in
      let good = good_world old.front.table h w (front_at old h w at').leads in (
        w',
        subst (λ t. Steps t w step effect w') at'.shows.table next.1,
        is_at fronted (h ++ step ∷ []) w' (counts.table ∙ at'.shows.table)
            next.2
            (store_same old.back.store.table old.back.store w w' rest.ended rest.contents at'.shows.store)
            (stage_same old.stage w w' (keeps_asked old.front.table w w' step effect next.1 good) rest.layer at'.shows.stage)
            (subst (λ es. AreRows es old.back.rows) (sym rest.ended) at'.shows.rows)
            (at'.shows.starved ∙ ap starved_among (sym rest.ended)),
      )

  pub made_by_front : (effect : Effect) → FrontSteps old f step (effect_shown effect) → Makes old step effect fronted
  made_by_front effect makes = record {
    table = refl;
    counted = let steps = counts.steps in let layers = counts.layers in omega arith;
    from_each = λ h w at'.
        subst (λ s. (w' : World) × Steps old.back.store.table w s (effect_shown effect) w' × IsAt fronted (h ++ s ∷ []) w')
        (sym (stored_same old step effect leaves).0) (steps_so (effect_shown effect) makes h w at');
    starves = λ h w at'. (stored_same old step effect leaves).1 w;
    rows = no_more old.back.rows;
  }

-- a step that is none of the layer's leaves it alone
pub alone : (s : Step) → s ≢ Take → ((starved : List SkipId) → s ≢ Run starved) → s ≢ Settle → LeavesLayers s
alone Take takes runs settles = absurd (takes refl)
alone (Run starved) takes runs settles = absurd (runs starved refl)
alone Settle takes runs settles = absurd (settles refl)
alone s takes runs settles = tt

-- what the front answers is what the system does, as the world says it
shown_of : (made : fronts.Effect) → making.effect_shown made ≡ effect_shown (effect_of made)
shown_of (fronts_effect.Opened conn) = refl
shown_of effect = refl

pub shown_same : (made : fronts.Effect) (e : Effect) → e ≡ effect_of made → making.effect_shown made ≡ effect_shown e
shown_same made e same = shown_of made ∙ ap effect_shown (sym same)

-- where the front makes it
pub front_makes : (old : Halves) (f : FrontView) (step : Step) (effect : world.Effect) → making.Makes old.front step effect f →
    FrontSteps old f step effect
front_makes old f step effect makes h w at' = makes.from_each h w (front_at old h w at')

-- ---- Take

-- no layer is there where the world has none
free_there : (s : Stage) (w : World) → w.layer ≡ NoneTaken → ShowsStage s w → s ≡ stage.Free
free_there stage.Free w none shows = refl
free_there s w none shows = absurd (let k = sym none ∙ shows.1 in cc)

pub take_makes : (old : Halves) → Lives old → (jobs : List Job) (f : FrontView) → Takes old.front jobs f →
    Makes old Take Made (record old { front = f; stage = stage.Taken jobs })
take_makes old lives jobs f takes = record {
  table = refl;
  counted =
      let first = takes.from_each lives.history lives.world (front_at old lives.history lives.world lives.at) in
      let free : ran_in old.stage ≡ 0 = ap ran_in (free_there old.stage lives.world first.0.free lives.at.shows.stage) in
      let steps = takes.is_step.steps in
      let layers = takes.is_step.layers in
      omega arith;
  from_each = λ h w at'.
      let next = takes.from_each h w (front_at old h w at') in
      let after = taken w f.out in (
        after,
        next.0,
        is_at (record old { front = f; stage = stage.Taken jobs }) (h ++ Take ∷ []) after (takes.is_step.table ∙ at'.shows.table) next.2
            (store_same old.back.store.table old.back.store w after refl refl at'.shows.store) (f.out, refl, next.1) at'.shows.rows
            at'.shows.starved,
      );
  starves = λ h w at'. tt;
  rows = no_more old.back.rows;
}

-- ---- refusals

-- what the call of a step answers, the step answers
pub told_fault : (old new : Halves) (step called : Step) (r : Result Effect StepFault) → step ≡ called → IfErr r (IsFault old called) →
    OnErr r (Keeps old new) → IfErr r (λ fault. fault ≢ Failed → IsFault old step fault × Keeps old new)
told_fault old new step called (Ok effect) same fault keeps = tt
told_fault old new step called (Err e) same fault keeps = λ other. (subst (λ s. IsFault old s e) (sym same) fault, keeps)

-- the halves are as they were where the front is
pub front_kept : (old : Halves) (f : FrontView) → f ≡ old.front → Keeps old (record old { front = f })
front_kept old f same = record { front = same; back = refl; stage = refl; starved = refl }

-- what the front has no fault of
pub admitted : (p : Halves) (step : Step) → refusing.RefusesNot p.front step → RefusesNot p step
admitted p step none h w at' = none h w (front_at p h w at')

-- such a step wants memory of the halves where it wants it of the front
pub wants_so : (s : Step) → LeavesLayers s → refusing.WantsMemory s → WantsMemory s
wants_so Settle leaves wants = absurd leaves
wants_so (Collect conn) leaves wants = wants
wants_so (Close conn) leaves wants = wants
wants_so s leaves wants = tt

-- why the front refuses a step is why the halves do
pub refused : (p : Halves) (step : Step) (f : FrontFault) → (refusing.WantsMemory step → WantsMemory step) →
    refusing.IsFault p.front step f → IsFault p step (of_front f)
refused p step front_fault.Memory wants why = (wants why.0, admitted p step why.1)
refused p step f wants why = λ h w at'. why h w (front_at p h w at')

-- the fault that is answered for it
pub refused_as : (p : Halves) (step : Step) (f : FrontFault) (told : StepFault) → told ≡ of_front f →
    (refusing.WantsMemory step → WantsMemory step) → refusing.IsFault p.front step f → IsFault p step told
refused_as p step f told same wants why = subst (IsFault p step) (sym same) (refused p step f wants why)

-- a front never says that a start was refused
pub not_failed : (f : FrontFault) (told : StepFault) → told ≡ of_front f → told ≢ Failed
not_failed front_fault.Busy told same failed = let k = sym same ∙ failed in cc
not_failed f told same failed = let k = sym same ∙ failed in cc
