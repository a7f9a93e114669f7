-- What was taken, run and settled is in turn, whatever the steps are.
use Rattle.std.proofs.Common.{◌≡◌, ℕ, suc, List, [], ◌∷◌, ◌++◌, map, length, refl, sym, ap, ◌∙◌}
use Rattle.std.proofs.Common.{subst, append-nil, append_assoc}
use Rattle.std.proofs.lemmas.Grind.{flat_map-append}
use Rattle.std.proofs.lemmas.List.{map-append}
use Rattle.journal.specs.declared.step.Step.{Step}
use Rattle.journal.specs.declared.step.Step.TheVariants.{Open, Submit, Deliver, Take, Run, Settle, Collect, Close, Repeat}
use Rattle.order_laws.proofs.Yielding.{yields_of}
use Rattle.order_laws.specs.Layers.{Yields, handed_out, run_by, settled_by, takes, settles, not_run, not_settled, all_of}
use Rattle.order_laws.specs.Runs.{LeavesLayers, OthersLeaveLayers, LayersAreInTurn}
use Rattle.placement.specs.Layout.{Layout}
use Rattle.sessions.specs.Session.{Answer, Now, Go}
use Rattle.skeen_core.specs.declared.packet.Delivered.{Delivered}
use Rattle.tasks.specs.Tasks.{Task, task_groups}
use Rattle.world.specs.Steps.{opening, Effect, Steps, Collects, submitted, submitted_to, remembered, answer_to}
use Rattle.world.specs.World.{World, Standing, Closed, Idle, Waiting, Answered, Ended, NoneTaken, Taken, HasRun}
use Rattle.world_laws.proofs.DeterminedLaws.{steps_determine}
use Rattle.world_laws.proofs.Layers.{run_of_layer}
use Rattle.world_laws.specs.Good.{all_delivered, taken_in, run_in}

-- ---- steps that leave the layer and what has ended

pub record Keeps (old new : World) : Type 0 where
  pub layer : new.layer ≡ old.layer
  pub ended : new.ended ≡ old.ended

submitted_to_keeps : (old w : World) (c : ℕ) (task : Task) (gs : List ℕ) → Keeps old w → Keeps old (submitted_to w c task gs)
submitted_to_keeps old w c task [] keeps = record { layer = keeps.layer; ended = keeps.ended }
submitted_to_keeps old w c task (g ∷ gs) keeps = record { layer = keeps.layer; ended = keeps.ended }

submitted_keeps : (t : Layout) (old w : World) (c : ℕ) (a : Answer) → Keeps old w → Keeps old (submitted t w c a)
submitted_keeps t old w c (Now reply) keeps = record { layer = keeps.layer; ended = keeps.ended }
submitted_keeps t old w c (Go task) keeps = submitted_to_keeps old w c task (task_groups t task) keeps

collects_keeps : (old new : World) (c : ℕ) (s : Standing) (effect : Effect) → Collects s old c effect new → Keeps old new
collects_keeps old new c Closed effect step = absurd step
collects_keeps old new c Idle effect step =
    record { layer = ap (λ (w : World). w.layer) step.1; ended = ap (λ (w : World). w.ended) step.1 }
collects_keeps old new c Waiting effect step =
    record { layer = ap (λ (w : World). w.layer) step.1; ended = ap (λ (w : World). w.ended) step.1 }
collects_keeps old new c (Answered o) effect step =
    record { layer = ap (λ (w : World). w.layer) step.1; ended = ap (λ (w : World). w.ended) step.1 }

-- a step that takes no layer, runs none and settles none
pub leaves : (t : Layout) (old new : World) (s : Step) (effect : Effect) → LeavesLayers s → Steps t old s effect new → Keeps old new
leaves t old new Open effect plain step =
    record { layer = ap (λ (w : World). w.layer) step.after; ended = ap (λ (w : World). w.ended) step.after }
leaves t old new (Submit conn words) effect plain step =
    subst (λ w. Keeps old w) (sym step.after)
    (submitted_keeps t old (remembered old conn.0 words) conn.0 (answer_to old conn.0 words) (record { layer = refl; ended = refl }))
leaves t old new (Deliver k) effect plain step =
    record { layer = ap (λ (w : World). w.layer) step.after; ended = ap (λ (w : World). w.ended) step.after }
leaves t old new Take effect plain step = absurd plain
leaves t old new (Run starved) effect plain step = absurd plain
leaves t old new Settle effect plain step = absurd plain
leaves t old new (Collect conn) effect plain step = collects_keeps old new conn.0 (old.standing conn.0) effect step
leaves t old new (Close conn) effect plain step =
    record { layer = ap (λ (w : World). w.layer) step.after; ended = ap (λ (w : World). w.ended) step.after }
leaves t old new (Repeat k) effect plain step =
    record { layer = ap (λ (w : World). w.layer) step.after; ended = ap (λ (w : World). w.ended) step.after }

pub others_leave_layers : OthersLeaveLayers
others_leave_layers t old new step effect plain made = let keeps = leaves t old new step effect plain made in (keeps.layer, keeps.ended)

-- ---- in turn, from any world

pub record AreInTurn (handed : List (List Delivered)) (ran settled : List (List Ended)) (w : World) : Type 0 where
  pub of_takes : handed ≡ map all_delivered ran ++ not_run w.layer
  pub of_runs : ran ≡ settled ++ not_settled w.layer
  pub ended : w.ended ≡ all_of ran

module _ (handed : List (List Delivered)) (ran settled : List (List Ended)) (old new : World) where
  kept : Keeps old new → AreInTurn handed ran settled old → AreInTurn (handed ++ []) (ran ++ []) (settled ++ []) new
  kept keeps are = record {
    of_takes = append-nil handed ∙ are.of_takes
        ∙ ap (λ l. map all_delivered ran ++ not_run l) (sym keeps.layer)
        ∙ ap (λ l. map all_delivered l ++ not_run new.layer) (sym (append-nil ran));
    of_runs = append-nil ran ∙ are.of_runs ∙ ap (λ l. settled ++ not_settled l) (sym keeps.layer)
        ∙ ap (λ l. l ++ not_settled new.layer) (sym (append-nil settled));
    ended = keeps.ended ∙ are.ended ∙ ap all_of (sym (append-nil ran));
  }

  by_take : (ds : List Delivered) → old.layer ≡ NoneTaken → new.layer ≡ Taken ds → new.ended ≡ old.ended →
      AreInTurn handed ran settled old → AreInTurn (handed ++ taken_in new.layer ∷ []) (ran ++ []) (settled ++ []) new
  by_take ds free taken same are = record {
    of_takes = ap (λ l. l ++ taken_in new.layer ∷ []) (are.of_takes ∙ ap (λ l. map all_delivered ran ++ not_run l) free
        ∙ append-nil (map all_delivered ran)) ∙ ap (λ l. map all_delivered ran ++ taken_in l ∷ []) taken
        ∙ ap (λ l. map all_delivered ran ++ not_run l) (sym taken)
        ∙ ap (λ l. map all_delivered l ++ not_run new.layer) (sym (append-nil ran));
    of_runs = append-nil ran ∙ are.of_runs ∙ ap (λ l. settled ++ not_settled l) free
        ∙ ap (λ l. settled ++ not_settled l) (sym taken)
        ∙ ap (λ l. l ++ not_settled new.layer) (sym (append-nil settled));
    ended = same ∙ are.ended ∙ ap all_of (sym (append-nil ran));
  }

  by_run : (ds : List Delivered) (es : List Ended) → old.layer ≡ Taken ds → new.layer ≡ HasRun es → all_delivered es ≡ ds →
      new.ended ≡ old.ended ++ es → AreInTurn handed ran settled old →
      AreInTurn (handed ++ []) (ran ++ run_in new.layer ∷ []) (settled ++ []) new
  by_run ds es taken has_run of_layer more are = record {
    of_takes = append-nil handed ∙ are.of_takes ∙ ap (λ l. map all_delivered ran ++ not_run l) taken
        ∙ ap (λ l. map all_delivered ran ++ l ∷ []) (sym of_layer)
        ∙ sym (map-append all_delivered ran (es ∷ []))
        ∙ ap (λ l. map all_delivered (ran ++ run_in l ∷ [])) (sym has_run)
        ∙ sym (append-nil (map all_delivered (ran ++ run_in new.layer ∷ [])))
        ∙ ap (λ l. map all_delivered (ran ++ run_in new.layer ∷ []) ++ not_run l) (sym has_run);
    of_runs = ap (λ l. l ++ run_in new.layer ∷ []) (are.of_runs ∙ ap (λ l. settled ++ not_settled l) taken ∙ append-nil settled)
        ∙ ap (λ l. settled ++ run_in l ∷ []) has_run
        ∙ ap (λ l. settled ++ not_settled l) (sym has_run)
        ∙ ap (λ l. l ++ not_settled new.layer) (sym (append-nil settled));
    ended = more ∙ ap (λ l. l ++ es) are.ended
        ∙ ap (λ l. all_of ran ++ l) (sym (append-nil es))
        ∙ sym (flat_map-append (λ l. l) ran (es ∷ []))
        ∙ ap (λ l. all_of (ran ++ run_in l ∷ [])) (sym has_run);
  }

  by_settle : (es : List Ended) → old.layer ≡ HasRun es → new.layer ≡ NoneTaken → new.ended ≡ old.ended →
      AreInTurn handed ran settled old → AreInTurn (handed ++ []) (ran ++ []) (settled ++ run_in old.layer ∷ []) new
  by_settle es has_run none same are = record {
    of_takes = append-nil handed ∙ are.of_takes ∙ ap (λ l. map all_delivered ran ++ not_run l) has_run
        ∙ ap (λ l. map all_delivered ran ++ not_run l) (sym none)
        ∙ ap (λ l. map all_delivered l ++ not_run new.layer) (sym (append-nil ran));
    of_runs = append-nil ran ∙ are.of_runs ∙ ap (λ l. settled ++ not_settled l) has_run
        ∙ ap (λ l. settled ++ run_in l ∷ []) (sym has_run)
        ∙ sym (append-nil (settled ++ run_in old.layer ∷ []))
        ∙ ap (λ l. (settled ++ run_in old.layer ∷ []) ++ not_settled l) (sym none);
    ended = same ∙ are.ended ∙ ap all_of (sym (append-nil ran));
  }

  abbrev Stay : Step → Type 0
  Stay s = AreInTurn handed ran settled old →
      AreInTurn (handed ++ handed_out old s new) (ran ++ run_by old s new) (settled ++ settled_by old s new) new

  step_stays : (t : Layout) (s : Step) (effect : Effect) → Steps t old s effect new → Stay s
  step_stays t Open effect step are = kept (leaves t old new Open effect tt step) are
  step_stays t (Submit conn words) effect step are = kept (leaves t old new (Submit conn words) effect tt step) are
  step_stays t (Deliver k) effect step are = kept (leaves t old new (Deliver k) effect tt step) are
  step_stays t Take effect step are =
      by_take step.layer step.free (ap (λ (w : World). w.layer) step.after) (ap (λ (w : World). w.ended) step.after) are
  step_stays t (Run starved) effect step are =
      by_run step.layer step.outcomes step.there (ap (λ (w : World). w.layer) step.after)
      (run_of_layer old.asked starved old.contents step.layer step.outcomes step.in_turn)
      (ap (λ (w : World). w.ended) step.after) are
  step_stays t Settle effect step are =
      by_settle step.outcomes step.there (ap (λ (w : World). w.layer) step.after) (ap (λ (w : World). w.ended) step.after) are
  step_stays t (Collect conn) effect step are = kept (leaves t old new (Collect conn) effect tt step) are
  step_stays t (Close conn) effect step are = kept (leaves t old new (Close conn) effect tt step) are
  step_stays t (Repeat k) effect step are = kept (leaves t old new (Repeat k) effect tt step) are

all_stay : (t : Layout) (old new : World) (ss : List Step) (handed hs : List (List Delivered)) (ran rs settled sets : List (List Ended)) →
    Yields handed_out t old ss hs new → Yields run_by t old ss rs new → Yields settled_by t old ss sets new →
    AreInTurn handed ran settled old → AreInTurn (handed ++ hs) (ran ++ rs) (settled ++ sets) new
all_stay t old new [] handed hs ran rs settled sets a b c are =
    subst (λ l. AreInTurn (handed ++ l) (ran ++ rs) (settled ++ sets) new) (sym a.0)
    (subst (λ l. AreInTurn (handed ++ []) (ran ++ l) (settled ++ sets) new) (sym b.0)
    (subst (λ l. AreInTurn (handed ++ []) (ran ++ []) (settled ++ l) new) (sym c.0)
    (kept handed ran settled old new (record { layer = ap (λ (w : World). w.layer) a.1; ended = ap (λ (w : World). w.ended) a.1 }) are)))
all_stay t old new (s ∷ ss) handed hs ran rs settled sets a b c are =
    subst (λ l. AreInTurn l (ran ++ rs) (settled ++ sets) new) (joined handed (handed_out old s a.1) a.2 hs a.5)
    (subst (λ l. AreInTurn ((handed ++ handed_out old s a.1) ++ a.2) l (settled ++ sets) new) (joined ran (run_by old s a.1) b.2 rs b_is)
    (subst (λ l. AreInTurn ((handed ++ handed_out old s a.1) ++ a.2) ((ran ++ run_by old s a.1) ++ b.2) l new)
    (joined settled (settled_by old s a.1) c.2 sets c_is)
    (all_stay t a.1 new ss (handed ++ handed_out old s a.1) a.2 (ran ++ run_by old s a.1) b.2 (settled ++ settled_by old s a.1) c.2
    a.4 (subst (λ w. Yields run_by t w ss b.2 new) (sym b_same) b.4) (subst (λ w. Yields settled_by t w ss c.2 new) (sym c_same) c.4)
    (step_stays handed ran settled old a.1 t s a.0 a.3 are))))
  where
    joined : {X : Type 0} (xs ys zs all : List X) → all ≡ ys ++ zs → (xs ++ ys) ++ zs ≡ xs ++ all
    joined xs ys zs all is = append_assoc xs ys zs ∙ ap (λ l. xs ++ l) (sym is)

    b_same : a.1 ≡ b.1
    b_same = (steps_determine t old a.1 b.1 s a.0 b.0 a.3 b.3).1

    c_same : a.1 ≡ c.1
    c_same = (steps_determine t old a.1 c.1 s a.0 c.0 a.3 c.3).1

    b_is : rs ≡ run_by old s a.1 ++ b.2
    b_is = b.5 ∙ ap (λ w. run_by old s w ++ b.2) (sym b_same)

    c_is : sets ≡ settled_by old s a.1 ++ c.2
    c_is = c.5 ∙ ap (λ w. settled_by old s w ++ c.2) (sym c_same)

pub layers_are_in_turn : LayersAreInTurn
layers_are_in_turn t steps w leads =
    let a = yields_of handed_out t opening w steps leads in
    let b = yields_of run_by t opening w steps leads in
    let c = yields_of settled_by t opening w steps leads in
    let are = all_stay t opening w steps [] a.0 [] b.0 [] c.0 a.1 b.1 c.1 (record { of_takes = refl; of_runs = refl; ended = refl }) in
    record {
      handed = a.0;
      ran = b.0;
      settled = c.0;
      takes = a.1;
      runs = b.1;
      settles = c.1;
      of_takes = are.of_takes;
      of_runs = are.of_runs;
      ended = are.ended;
    }

-- ---- how many

pub takes_counted : (t : Layout) (old new : World) (ss : List Step) (hs : List (List Delivered)) → Yields handed_out t old ss hs new →
    length hs ≡ takes ss
takes_counted t old new [] hs a = ap length a.0
takes_counted t old new (s ∷ ss) hs a = ap length a.5 ∙ by_step s (takes_counted t a.1 new ss a.2 a.4)
  where
    by_step : (s : Step) → length a.2 ≡ takes ss → length (handed_out old s a.1 ++ a.2) ≡ takes (s ∷ ss)
    by_step Open is = is
    by_step (Submit conn words) is = is
    by_step (Deliver k) is = is
    by_step Take is = ap suc is
    by_step (Run starved) is = is
    by_step Settle is = is
    by_step (Collect conn) is = is
    by_step (Close conn) is = is
    by_step (Repeat k) is = is

pub settles_counted : (t : Layout) (old new : World) (ss : List Step) (es : List (List Ended)) → Yields settled_by t old ss es new →
    length es ≡ settles ss
settles_counted t old new [] es a = ap length a.0
settles_counted t old new (s ∷ ss) es a = ap length a.5 ∙ by_step s (settles_counted t a.1 new ss a.2 a.4)
  where
    by_step : (s : Step) → length a.2 ≡ settles ss → length (settled_by old s a.1 ++ a.2) ≡ settles (s ∷ ss)
    by_step Open is = is
    by_step (Submit conn words) is = is
    by_step (Deliver k) is = is
    by_step Take is = is
    by_step (Run starved) is = is
    by_step Settle is = ap suc is
    by_step (Collect conn) is = is
    by_step (Close conn) is = is
    by_step (Repeat k) is = is
