-- What each system is, it is after every step, made or not.
use Rattle.std.proofs.Common.{◌≡◌, ◌≢◌, ℕ, suc, ◌+◌, ◌<◌, Bool, false, List, [], ◌∷◌, ◌++◌, length, ◌⊎◌, inl, inr, refl, sym, ap, ◌∙◌}
use Rattle.std.proofs.Common.{subst, arith, length-append}
use Rattle.std.proofs.lemmas.Bool.{both_ways}
use Rattle.back.specs.Backs.{BackState}
use Rattle.execution_order.specs.Entries.{rows_by_stamp}
use Rattle.front.specs.Fronts.{FrontView, IsOut}
use Rattle.journal.specs.declared.step.Step.{Step}
use Rattle.placement.specs.Layout.{IsTable}
use Rattle.system.specs.Halves.{IsAt, ShowsStage, Makes, Keeps, stored, ran_in, count_of}
use Rattle.system.specs.Refusing.{Lives, IsFault, MayFail, HasFailed}
use Rattle.system.specs.System.{SystemView, ShowsHistory, IsSystem, IsStep, MayGoOn, Refuses, IsRefused, ObeysOneThread}
use Rattle.system.specs.declared.effect.Effect.{Effect}
use Rattle.system.specs.declared.fault.StepFault.{StepFault}
use Rattle.system.specs.declared.fault.StepFault.TheVariants.{Exhausted, Failed}
use Rattle.system.specs.declared.halves.Halves.{Halves}
use Rattle.system.specs.declared.stage.Stage.{Stage}
use Rattle.system.specs.declared.system.System.TheInside.{Inside}
use Rattle.front.specs.Connections.{ShowsConnections}
use Rattle.front.specs.Layers.{AreRows, ShowsStore}
use Rattle.front.specs.Multicast.{ShowsMulticast}
use Rattle.world.specs.Steps.{opening, Leads}
use Rattle.world.specs.World.{World}
use Rattle.world_laws.proofs.HeadlineLaws.{headline_holds}
use Rattle.world_laws.specs.Headline.{IsOneThread, rows_of}

-- what contracts see of the system with these fields
abbrev pub seen : Inside → SystemView
seen inside = record { max_steps = inside.max_steps; steps = inside.steps; halves = inside.halves }

-- ---- the headline

-- whatever history led here, replies and contents are those of one thread
pub obeys : (s : SystemView) → IsTable s.halves.back.store.table → ObeysOneThread s
obeys s is_table = λ h w at'. subst (λ m. IsOneThread m (rows_by_stamp (rows_of w.ended))) (sym at'.shows.store.contents)
    (headline_holds s.halves.back.store.table h w is_table at'.leads)

-- ---- a step that was made

-- a system that lives and may make a step has come by few steps
pub lives : (s : SystemView) → IsSystem s → s.halves.back.store.failed ≡ false → s.steps < s.max_steps → Lives s.halves
lives s is alive left =
    let shown = is.shows alive in
    let count = shown.2.count in
    let few = is.few in
    record {
      history = shown.0;
      world = shown.1;
      at = shown.2.at;
      few = omega arith;
      counted = is.counted alive ∙ sym shown.2.count;
    }

one_more : (h : List Step) (s : Step) (old new : ℕ) → length h ≡ old → new ≡ suc old → length (h ++ s ∷ []) ≡ new
one_more h s old new count next = let k = length-append h (s ∷ []) in omega arith

pub goes_on : (old new : SystemView) (step : Step) (effect : Effect) → IsSystem old → IsStep old step effect new → IsSystem new
goes_on old new step effect is made =
    let counted = made.counted in
    let same = made.max_steps in
    let left = made.left in
    let few = is.few in
    record {
      is_table = subst IsTable (sym made.makes.table) is.is_table;
      within = omega arith;
      few = omega arith;
      shows = λ alive.
          let shown = is.shows made.lived in
          let next = made.makes.from_each shown.0 shown.1 shown.2.at in (
            shown.0 ++ stored step effect ∷ [],
            next.0,
            record { at = next.2; count = one_more shown.0 (stored step effect) old.steps new.steps shown.2.count made.counted },
          );
      counted = λ alive. made.makes.counted ∙ ap suc (is.counted made.lived) ∙ sym made.counted;
    }

-- the halves made the step: so did the system
pub made_so : (old : SystemView) (step : Step) (effect : Effect) (halves : Halves) → IsSystem old → old.halves.back.store.failed ≡ false →
    old.steps < old.max_steps → Makes old.halves step effect halves →
    IsStep old step effect (record { max_steps = old.max_steps; steps = old.steps + 1; halves = halves })
made_so old step effect halves is alive left makes = record {
  lived = alive;
  lives = let shown = is.shows alive in (makes.from_each shown.0 shown.1 shown.2.at).2.shows.store.lives;
  left = left;
  counted = omega arith;
  max_steps = refl;
  makes = makes;
}

-- ---- a step that was not

-- halves that are as they were but for room show what they showed
pub still_at : (old new : Halves) → Keeps old new → (h : List Step) (w : World) → IsAt old h w → IsAt new h w
still_at old new keeps h w at' = record {
  leads = subst (λ (b : BackState). Leads b.store.table opening h w) (sym keeps.back) at'.leads;
  shows = record {
    connections = subst (λ (f : FrontView). ShowsConnections f.router w) (sym keeps.front) at'.shows.connections;
    multicast = subst (λ (f : FrontView). ShowsMulticast f.table f.multicast w) (sym keeps.front) at'.shows.multicast;
    out = subst (λ (f : FrontView). IsOut w.layer f.out) (sym keeps.front) at'.shows.out;
    table = ap (λ (f : FrontView). f.table) keeps.front ∙ at'.shows.table ∙ ap (λ (b : BackState). b.store.table) (sym keeps.back);
    store = subst (λ (b : BackState). ShowsStore b.store.table b.store w) (sym keeps.back) at'.shows.store;
    stage = subst (λ s. ShowsStage s w) (sym keeps.stage) at'.shows.stage;
    rows = subst (λ (b : BackState). AreRows w.ended b.rows) (sym keeps.back) at'.shows.rows;
    starved = keeps.starved ∙ at'.shows.starved;
  };
}

-- what they show is the same
pub same_store : {old new : Halves} → Keeps old new → new.back.store ≡ old.back.store
same_store keeps = ap (λ (b : BackState). b.store) keeps.back

-- what a refusal leaves: all as before but for room, or a system that has failed
abbrev pub Leaves : Halves → Halves → Type 0
Leaves old new = Keeps old new ⊎ HasFailed old new

pub table_left : (old new : Halves) → Leaves old new → new.back.store.table ≡ old.back.store.table
table_left old new (inl keeps) = ap (λ s. s.table) (same_store keeps)
table_left old new (inr failed) = failed.table

still_shows : (old new : SystemView) → IsSystem old → new.steps ≡ old.steps → Leaves old.halves new.halves →
    new.halves.back.store.failed ≡ false → (h : List Step) × (w : World) × ShowsHistory new h w
still_shows old new is same (inl keeps) alive =
    let shown = is.shows (ap (λ s. s.failed) (sym (same_store keeps)) ∙ alive) in (
      shown.0,
      shown.1,
      record {
        at = still_at old.halves new.halves keeps shown.0 shown.1 shown.2.at;
        count = shown.2.count ∙ sym same;
      },
    )
still_shows old new is same (inr failed) alive = absurd (both_ways _ alive failed.failed)

-- and have counted as many steps
still_counts : (old new : SystemView) → IsSystem old → new.steps ≡ old.steps → Leaves old.halves new.halves →
    new.halves.back.store.failed ≡ false → count_of new.halves ≡ new.steps
still_counts old new is same (inl keeps) alive =
    ap (λ (f : FrontView). f.steps + f.layers + ran_in new.halves.stage) keeps.front
    ∙ ap (λ (s : Stage). old.halves.front.steps + old.halves.front.layers + ran_in s) keeps.stage
    ∙ is.counted (ap (λ s. s.failed) (sym (same_store keeps)) ∙ alive) ∙ sym same
still_counts old new is same (inr failed) alive = absurd (both_ways _ alive failed.failed)

pub stays : (old new : SystemView) → IsSystem old → new.steps ≡ old.steps → new.max_steps ≡ old.max_steps →
    Leaves old.halves new.halves → IsSystem new
stays old new is steps most leaves =
    let within = is.within in
    let few = is.few in
    record {
      is_table = subst IsTable (sym (table_left old.halves new.halves leaves)) is.is_table;
      within = omega arith;
      few = omega arith;
      shows = still_shows old new is steps leaves;
      counted = still_counts old new is steps leaves;
    }

failed_or_not : (f : StepFault) → (f ≡ Failed) ⊎ (f ≢ Failed)
failed_or_not Failed = inl refl
failed_or_not f = inr (λ e. let k = e in cc)

-- what the halves leave by a fault
pub leaves : (fault : StepFault) (old new : Halves) → (fault ≢ Failed → Keeps old new) → (fault ≡ Failed → HasFailed old new) →
    Leaves old new
leaves fault old new keeps fails = elim (failed_or_not fault) [ inl failed ↦ inr (fails failed) | inr other ↦ inl (keeps other) ]

-- ---- why it was not

refused_by : (old new : SystemView) (step : Step) (fault : StepFault) → old.halves.back.store.failed ≡ false →
    old.steps < old.max_steps → new.steps ≡ old.steps → new.max_steps ≡ old.max_steps →
    IsFault old.halves step fault × Keeps old.halves new.halves → Refuses old step fault new
refused_by old new step fault alive left steps most told =
    record { lived = alive; left = left; why = told.0; kept = record { max_steps = most; steps = steps; halves = told.1 } }

-- what the halves answer, the system answers
pub refused_so : (may_refuse : Bool) (old new : SystemView) (step : Step) (fault : StepFault) → old.halves.back.store.failed ≡ false →
    old.steps < old.max_steps → new.steps ≡ old.steps → new.max_steps ≡ old.max_steps →
    (fault ≢ Failed → IsFault old.halves step fault × Keeps old.halves new.halves) →
    (fault ≡ Failed → MayFail may_refuse old.halves step × HasFailed old.halves new.halves) → IsRefused may_refuse old step fault new
refused_so may old new step Exhausted alive left steps most keeps fails = absurd (keeps (λ e. let k = e in cc)).0
refused_so may old new step Failed alive left steps most keeps fails =
    let told = fails refl in inr (record { lived = alive; left = left; may_fail = told.0; failed = told.1 })
refused_so may old new step fault alive left steps most keeps fails =
    refused_by old new step fault alive left steps most (keeps (λ e. let k = e in cc))

-- ---- a step that is looked at

pub same_halves : (p : Halves) → Keeps p p
same_halves p = record { front = refl; back = refl; stage = refl; starved = refl }

-- a fault of a step's own refuses it, with nothing changed
pub refused_still : (s : SystemView) (step : Step) (fault : StepFault) → MayGoOn s → IsFault s.halves step fault →
    IsRefused false s step fault s
refused_still s step fault may why =
    refused_so false s s step fault may.lives may.left refl refl (λ other. (why, same_halves s.halves))
    (λ failed. absurd (subst (IsFault s.halves step) failed why))
