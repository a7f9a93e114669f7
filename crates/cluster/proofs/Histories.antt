-- A history stays one, whether a step is made or not.
use Rattle.std.proofs.Common.{◌≡◌, ◌≢◌, ℕ, ◌+◌, ◌<◌, ◌≤◌, List, [], ◌∷◌, ◌++◌, length, Option, refl, sym, ap, ◌∙◌, subst, arith}
use Rattle.std.proofs.Common.{length-append}
use Rattle.cluster.proofs.Settling as settling
use Rattle.cluster.proofs.Settling.{IsBack}
use Rattle.cluster.proofs.Stepping as stepping
use Rattle.cluster.proofs.Taking as taking
use Rattle.cluster.proofs.Taking.{none_true}
use Rattle.cluster.proofs.Tapes.{trace_still, trace_pushed}
use Rattle.cluster.specs.Histories.{HistoryView, IsTrueIn, kept_for, IsHistory, kept_back, MayGoOn, IsMade, IsUnchanged, IsRefused}
use Rattle.cluster.specs.Histories.{HasNoFault, IsFault}
use Rattle.cluster.specs.Layers.{HandsOut, IsSettled}
use Rattle.cluster.specs.Making.{of_front}
use Rattle.cluster.specs.Sealed.{TakenView, IsTaken, RanView}
use Rattle.cluster.specs.Traces.{IsTraceOf, SameTrace, IsPushed}
use Rattle.cluster.specs.declared.fault.StepFault.{StepFault}
use Rattle.cluster.specs.declared.fault.StepFault.TheVariants.{Memory}
use Rattle.front.specs.Fronts.{FrontView, IsOut}
use Rattle.front.specs.Fronts as front
use Rattle.front.specs.Making.{Makes}
use Rattle.front.specs.Refusing as refusing
use Rattle.front.specs.Settling.{IsTrueOf, Settles}
use Rattle.front.specs.Taking.{Takes}
use Rattle.front.specs.declared.fault.FrontFault.{FrontFault}
use Rattle.front.specs.declared.fault.FrontFault.TheVariants as front_fault
use Rattle.cluster.specs.declared.tape.Tape.{Tape}
use Rattle.journal.specs.declared.step.Step.{Step}
use Rattle.journal.specs.declared.step.Step.TheVariants.{Take, Run, Settle}
use Rattle.journal.specs.declared.trace.TheConstants.{GREATEST_STEPS}
use Rattle.layer_planner.specs.declared.job.Job.{Job}
use Rattle.layer_results.specs.Results.{names_of}
use Rattle.layer_results.specs.declared.done.DoneRow.{DoneRow}
use Rattle.order_laws.proofs.Layers.{others_leave_layers}
use Rattle.order_laws.specs.Runs.{LeavesLayers}
use Rattle.placement.specs.Layout.{Layout}
use Rattle.skeen_core.specs.declared.packet.Delivered.{Delivered}
use Rattle.world.specs.Steps.{OwnFault, opening, Effect, Leads, taken}
use Rattle.world.specs.World.{World, Layer, NoneTaken}

abbrev pub history : FrontView → ℕ → List Step → List (List DoneRow) → Option Tape → HistoryView
history f most steps ran trace = record { front = f; max_steps = most; steps = steps; ran = ran; trace = trace }

-- ---- numbers

pub plain_kept : (step : Step) (out : List Delivered) → LeavesLayers step → kept_back step out ≡ kept_for out
plain_kept Take out plain = absurd plain
plain_kept (Run starved) out plain = absurd plain
plain_kept Settle out plain = absurd plain
plain_kept step out plain = refl

pub kept_few : (out : List Delivered) → kept_for out ≤ 2
kept_few [] = omega arith
kept_few (d ∷ ds) = omega arith

pub kept_some : (out : List Delivered) → out ≢ [] → kept_for out ≡ 2
kept_some [] some = absurd (some refl)
kept_some (d ∷ ds) some = refl

pub kept_none : (out : List Delivered) → out ≡ [] → kept_for out ≡ 0
kept_none out none = ap kept_for none

-- where so many steps are left one more may be made
pub goes_on : (h : HistoryView) (step : Step) → LeavesLayers step → length h.steps + kept_for h.front.out < h.max_steps → MayGoOn h step
goes_on h step plain left = let kept = plain_kept step h.front.out plain in omega arith

-- the steps lead to a world
abbrev pub AreLegal : Layout → List Step → Type 0
AreLegal t steps = (w : World) × Leads t opening steps w

-- ---- what is out stays out

same_out : (l : Layer) (a b : List Delivered) → IsOut l a → IsOut l b → a ≡ b
same_out NoneTaken a b here there = here ∙ sym there
same_out l a b here there = here.0 ∙ sym there.0

module _ (t : Layout) (h : HistoryView) (is : IsHistory t h) where
  -- ---- a step is made

  module _ (step : Step) (plain : LeavesLayers step) (effect : Effect) (new : FrontView) (makes : Makes h.front step effect new) where
    pub made_legal : AreLegal t (h.steps ++ step ∷ [])
    made_legal =
        let next = stepping.next h is.world is.true_in step plain effect new makes in (
          next.world,
          subst (λ s. Leads s opening (h.steps ++ step ∷ []) next.world) is.table
              (stepping.leads_on h is.world is.true_in step plain effect new makes),
        )

    pub out_stays : new.out ≡ h.front.out
    out_stays =
        let next = stepping.next h is.world is.true_in step plain effect new makes in
        let keeps = others_leave_layers h.front.table is.world next.world step effect plain next.does in
        same_out is.world.layer new.out h.front.out (subst (λ (l : Layer). IsOut l new.out) keeps.0 next.at.shows.out)
        is.true_in.at.shows.out

    module _ (most : ℕ) (trace : Option Tape) (left : length h.steps + kept_for h.front.out < h.max_steps)
        (same : most ≡ h.max_steps) (pushed : IsPushed h.trace step trace) where
      abbrev pub now : HistoryView
      now = history new most (h.steps ++ step ∷ []) h.ran trace

      pub history_made : IsHistory t now
      history_made = record {
        few = omega (arith, is.few, same);
        within = omega (arith, left, same, length-append h.steps (step ∷ []), ap kept_for out_stays);
        traced = trace_pushed h.trace trace h.steps step h.max_steps most pushed same is.traced;
        table = makes.is_step.table ∙ is.table;
        world = _;
        true_in = stepping.goes_on h is.world is.true_in step plain effect new makes most trace;
      }

      pub was_made : IsMade h step effect now
      was_made = stepping.is_made h is.world is.true_in step plain effect new makes most trace (goes_on h step plain left) same

  -- ---- a layer is taken

  module _ (jobs : List Job) (new : FrontView) (takes : Takes h.front jobs new) where
    pub take_legal : AreLegal t (h.steps ++ Take ∷ [])
    take_legal = (
      taken is.world new.out,
      subst (λ s. Leads s opening (h.steps ++ Take ∷ []) (taken is.world new.out)) is.table
          (taking.take_leads h is.world is.true_in jobs new takes h.max_steps h.trace),
    )

    pub layer_sealed : IsTaken t (record { layer = jobs; number = new.layers; told = h.steps ++ Take ∷ [] })
    layer_sealed = subst (λ s. IsTaken s (record { layer = jobs; number = new.layers; told = h.steps ++ Take ∷ [] })) is.table
        (taking.is_taken h is.world is.true_in jobs new takes h.max_steps h.trace)

    module _ (most : ℕ) (trace : Option Tape) (left : length h.steps + 2 < h.max_steps)
        (same : most ≡ h.max_steps) (pushed : IsPushed h.trace Take trace) where
      abbrev pub after_take : HistoryView
      after_take = history new most (h.steps ++ Take ∷ []) h.ran trace

      pub history_taken : IsHistory t after_take
      history_taken = record {
        few = omega (arith, is.few, same);
        within = omega (arith, left, same, length-append h.steps (Take ∷ []), kept_few new.out);
        traced = trace_pushed h.trace trace h.steps Take h.max_steps most pushed same is.traced;
        table = takes.is_step.table ∙ is.table;
        world = taken is.world new.out;
        true_in = taking.taken_true h is.world is.true_in jobs new takes most trace;
      }

      pub hands_out : (v : TakenView) → v.layer ≡ jobs → v.number ≡ new.layers → v.told ≡ after_take.steps → HandsOut h v after_take
      hands_out v layer number told =
          let from = takes.from_each h.steps is.world is.true_in.at in
          record {
            made = record {
              left = left;
              max_steps = same;
              steps = refl;
              table = takes.is_step.table;
              ran = refl;
              world = is.world;
              leads = is.true_in.at.leads;
              after = taken is.world new.out;
              makes = from.0;
            };
            number = number ∙ takes.is_step.layers;
            told = told;
            after = refl;
            are_jobs = subst (λ js. Rattle.front.specs.Layers.AreJobs is.world.asked new.out js) (sym layer) from.1;
          }

  -- ---- what came of a layer is settled

  module _ (v : RanView) (back : IsBack t h v) where
    back' : IsBack h.front.table h v
    back' = subst (λ s. IsBack s h v) (sym is.table) back

    pub of_layer : IsTrueOf h.front v.done
    of_layer = settling.truth h is.world is.true_in v back'

    pub ran_more : v.ran ≡ h.ran ++ v.done ∷ []
    ran_more = settling.ran_is h is.world is.true_in v back'

    -- steps are left for it
    two_left : length h.steps + 2 ≤ h.max_steps
    two_left = omega (arith, is.within, kept_some h.front.out back.some)

    module _ (new : FrontView) (settles : Settles h.front v.done new) where
      abbrev pub settled_steps : List Step
      settled_steps = (h.steps ++ Run (names_of v.done) ∷ []) ++ Settle ∷ []

      pub settle_legal : AreLegal t settled_steps
      settle_legal = subst (λ s. AreLegal s settled_steps) is.table
          (settling.settle_leads h is.world is.true_in v back' new settles h.max_steps h.trace)

      module _ (most : ℕ) (trace mid : Option Tape) (same : most ≡ h.max_steps)
          (run : IsPushed h.trace (Run (names_of v.done)) mid) (settle : IsPushed mid Settle trace) where
        abbrev pub after_settle : HistoryView
        after_settle = history new most settled_steps v.ran trace

        pub history_settled : IsHistory t after_settle
        history_settled = record {
          few = omega (arith, is.few, same);
          within = omega (
            arith,
            two_left,
            same,
            length-append (h.steps ++ Run (names_of v.done) ∷ []) (Settle ∷ []),
            length-append h.steps (Run (names_of v.done) ∷ []),
            kept_none new.out settles.out,
          );
          traced = trace_pushed mid trace (h.steps ++ Run (names_of v.done) ∷ []) Settle h.max_steps most settle same
              (trace_pushed h.trace mid h.steps (Run (names_of v.done)) h.max_steps h.max_steps run refl is.traced);
          table = settles.table ∙ is.table;
          world = _;
          true_in = settling.settled h is.world is.true_in v back' new settles most trace;
        }

        pub was_settled : IsSettled h v.done after_settle
        was_settled = settling.is_settled h is.world is.true_in v back' new settles most trace two_left same

-- ---- a step that was not

-- neither how many steps there may be nor a trace is part of what is true
true_beside : (h : HistoryView) (w : World) (most : ℕ) (trace : Option Tape) → IsTrueIn h w →
    IsTrueIn (history h.front most h.steps h.ran trace) w
true_beside h w most trace is =
    record { at = is.at; not_run = is.not_run; ran = is.ran; layers = is.layers; counted = is.counted }

true_still : (h h' : HistoryView) (w : World) → IsUnchanged h h' → IsTrueIn h w → IsTrueIn h' w
true_still h h' w still is =
    subst (λ f. IsTrueIn (history f h'.max_steps h'.steps h'.ran h'.trace) w) (sym still.front)
    (subst (λ s. IsTrueIn (history h.front h'.max_steps s h'.ran h'.trace) w) (sym still.steps)
    (subst (λ l. IsTrueIn (history h.front h'.max_steps h.steps l h'.trace) w) (sym still.ran) (true_beside h w h'.max_steps h'.trace is)))

pub history_still : (t : Layout) (old new : HistoryView) → IsHistory t old → IsUnchanged old new → IsHistory t new
history_still t old new is still = record {
  few = omega (arith, is.few, still.max_steps);
  within = omega (arith, is.within, still.max_steps, ap length still.steps, ap (λ (f : FrontView). kept_for f.out) still.front);
  traced = trace_still old.trace new.trace old.steps new.steps old.max_steps new.max_steps still.trace still.steps still.max_steps
      is.traced;
  table = ap (λ (f : FrontView). f.table) still.front ∙ is.table;
  world = is.world;
  true_in = true_still old new is.world still is.true_in;
}

-- another trace of the same steps
pub history_traced : (t : Layout) (h : HistoryView) (trace : Option Tape) → IsHistory t h → IsTraceOf trace h.steps h.max_steps →
    IsHistory t (history h.front h.max_steps h.steps h.ran trace)
history_traced t h trace is traced = record {
  few = is.few;
  within = is.within;
  traced = traced;
  table = is.table;
  world = is.world;
  true_in = true_beside h is.world h.max_steps trace is.true_in;
}

-- what it leaves, where only room has changed
pub left_so : (old : HistoryView) (f : FrontView) (trace : Option Tape) → f ≡ old.front → SameTrace old.trace trace →
    IsUnchanged old (history f old.max_steps old.steps old.ran trace)
left_so old f trace front same = record { front = front; max_steps = refl; steps = refl; ran = refl; trace = same }

-- ---- why it was not

module _ (t : Layout) (h : HistoryView) (is : IsHistory t h) where
  -- what is refused in each world that the front is at is refused in that of the steps
  there : (step : Step) (fault : OwnFault) → refusing.Refuses h.front step fault → IsRefused h step fault
  there step fault refuses = record {
    world = is.world;
    leads = is.true_in.at.leads;
    refused = refuses h.steps is.world is.true_in.at;
  }

  free : (step : Step) → refusing.RefusesNot h.front step → HasNoFault h step
  free step none = record {
    world = is.world;
    leads = is.true_in.at.leads;
    none = none h.steps is.world is.true_in.at;
  }

  fault_of : (step : Step) (fault : FrontFault) → MayGoOn h step → refusing.IsFault h.front step fault → IsFault h step (of_front fault)
  fault_of step front_fault.Memory left why = (left, free step why.1)
  fault_of step fault left why = (left, there step _ why)

  -- the fault that is answered for it
  pub told_as : (step : Step) (fault : FrontFault) (told : StepFault) → told ≡ of_front fault → MayGoOn h step →
      refusing.IsFault h.front step fault → IsFault h step told
  told_as step fault told same left why = subst (IsFault h step) (sym same) (fault_of step fault left why)

  -- want of memory in the trace refuses what nothing else does
  pub memory_of : (step : Step) → MayGoOn h step → refusing.RefusesNot h.front step → IsFault h step Memory
  memory_of step left none = (left, free step none)

-- where there was no memory for a step that wants none, it is not for that
pub wants_of : (step : Step) (fault : FrontFault) (f : FrontView) (told : StepFault) → told ≡ of_front fault →
    refusing.IsFault f step fault → told ≡ Memory → refusing.WantsMemory step
wants_of step front_fault.Memory f told same why memory = why.0
wants_of step fault f told same why memory = absurd (let k = sym same ∙ memory in cc)

-- ---- none

-- no step was made
pub history_new : (t : Layout) (most : ℕ) (f : FrontView) (steps : List Step) (ran : List (List DoneRow)) (trace : Option Tape) →
    1 ≤ most → most ≤ GREATEST_STEPS → front.IsNew t f → steps ≡ [] → ran ≡ [] → IsTraceOf trace [] most →
    IsHistory t (history f most steps ran trace)
history_new t most f steps ran trace some few is none nothing traced =
    subst (λ s. IsHistory t (history f most s ran trace)) (sym none)
    (subst (λ l. IsHistory t (history f most [] l trace)) (sym nothing) (record {
      few = few;
      within = omega (arith, some, kept_none f.out is.at.shows.out);
      traced = traced;
      table = is.table;
      world = opening;
      true_in = none_true f t most trace is;
    }))
