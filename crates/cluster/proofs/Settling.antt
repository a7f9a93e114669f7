-- What comes of the layer that is out, by its number alone: the world runs it so, and that is what the front is told.
use Rattle.std.proofs.Common.{◌≡◌, ◌≢◌, ℕ, ◌+◌, ◌≤◌, List, [], ◌∷◌, ◌++◌, map, length, inl, inr, Option, Some, Ok, refl, sym, ap, ◌∙◌}
use Rattle.std.proofs.Common.{subst, append-nil, append_assoc, length-append, arith}
use Rattle.std.proofs.lemmas.List.{map-append}
use Rattle.std.specs.List.{AllZip}
use mathlib.Core.List.{IsPrefix}
use Rattle.front.proofs.Running.{sees_no_run}
use Rattle.front.specs.Fronts.{FrontView, FrontIsAt, HasNotRun}
use Rattle.front.specs.Settling as settling
use Rattle.front.specs.Settling.{IsTrueOf, Settles}
use Rattle.groups.proofs.Options.{some_same}
use Rattle.groups.specs.Order.{In}
use Rattle.groups.specs.declared.request.RequestId.{RequestId}
use Rattle.journal.specs.declared.step.Step.{Step}
use Rattle.journal.specs.declared.step.Step.TheVariants.{Run, Settle}
use Rattle.layer_results.specs.Results.{names_of}
use Rattle.layer_results.specs.declared.done.DoneRow.{DoneRow}
use Rattle.order_laws.proofs.Asking.{asked_stays}
use Rattle.order_laws.proofs.SerialLaws.{serial_is_true}
use Rattle.order_laws.proofs.TakeLaws.{takes_agree}
use Rattle.order_laws.proofs.Yielding.{one_more, leads_of}
use Rattle.order_laws.specs.Layers.{Yields, run_by}
use Rattle.execution_order.specs.Serial.{IsSerial}
use Rattle.order_laws.specs.Takes.{HandsOut}
use Rattle.order_laws.specs.Truth.{ran_as, AreRunsOf, with_run}
use Rattle.cluster.proofs.Came.{Tells, tells, names_told, Addressed, layer_told}
use Rattle.cluster.proofs.Numbers.{is_taken, out_is_handed, same_begin, begins_more}
use Rattle.cluster.specs.Histories.{HistoryView, IsTrueIn}
use Rattle.cluster.specs.Layers.{IsToldBy, IsSettled}
use Rattle.cluster.specs.declared.tape.Tape.{Tape}
use Rattle.cluster.specs.Sealed.{RanView, IsRowOf, IsRan}
use Rattle.serial_store.specs.Serial.{layer_of, AreSerial}
use Rattle.placement.specs.Layout.{Layout}
use Rattle.skeen_core.specs.declared.packet.Delivered.{Delivered}
use Rattle.tasks.specs.Tasks.{task_groups}
use Rattle.world.specs.Steps.{opening, Ran, Made, Steps, Leads}
use Rattle.world.specs.World.{World, Request, Ended, Taken}
use Rattle.world_laws.proofs.ConditionLaws.{layers_are_submitted}
use Rattle.world_laws.proofs.Layers.{in_delivered}
use Rattle.world_laws.specs.Good.{delivered_of}
use Rattle.world_laws.specs.Order.{HasFinal}

-- lists whose places agree so agree otherwise
zip_in : {X Y : Type 0} (R S : X → Y → Type 0) (xs : List X) (ys : List Y) →
    ((x : X) (y : Y) → In x xs → In y ys → R x y → S x y) → AllZip R xs ys → AllZip S xs ys
zip_in R S [] [] holds zip = tt
zip_in R S (x ∷ xs) (y ∷ ys) holds zip = (
  holds x y (inl refl) (inl refl) zip.0,
  zip_in R S xs ys (λ a b there here. holds a b (inr there) (inr here)) zip.1,
)
zip_in R S xs ys holds zip = absurd zip

-- so much of it the front is told
told_so : (es : List Ended) (done : List DoneRow) → AllZip IsToldBy es done → AllZip settling.IsToldBy es done
told_so es done zip = zip_in IsToldBy settling.IsToldBy es done
    (λ e row there here told. record { id = told.id; stamp = told.stamp; reply = told.reply }) zip

-- it comes back of the layer that is out: its steps and the history's begin one list that leads to a world, and what was run by both
-- begins one list
pub record IsBack (t : Layout) (h : HistoryView) (v : RanView) : Type 0 where
  pub came : IsRan t v
  pub some : h.front.out ≢ []
  pub number : v.number ≡ h.front.layers
  pub all : List Step
  pub legal : (x : World) × Leads t opening all x
  pub mine : IsPrefix h.steps all
  pub its : IsPrefix v.told all
  pub every : List (List DoneRow)
  pub mine_ran : IsPrefix h.ran every
  pub its_ran : IsPrefix v.ran every
  pub serial : AreSerial t v.ran

-- what came back, by its parts
abbrev pub view : List DoneRow → ℕ → List Step → List (List DoneRow) → RanView
view done number told ran = record { done = done; number = number; told = told; ran = ran }

-- what was sealed is so of these
pub is_back : {t : Layout} {h : HistoryView} {done done' : List DoneRow} {number : ℕ} {told : List Step} {ran ran' : List (List DoneRow)} →
    IsRan t (view done number told ran) → done' ≡ done → ran' ≡ ran → h.front.out ≢ [] → number ≡ h.front.layers → (all : List Step) →
    (x : World) × Leads t opening all x → IsPrefix h.steps all → IsPrefix told all → (every : List (List DoneRow)) → IsPrefix h.ran every →
    IsPrefix ran' every → AreSerial t ran' → IsBack t h (view done' number told ran')
is_back {t} {done = done} {number = number} {told = told} {ran' = ran'} is same_done same_ran some same all legal mine its every mine_ran
    its_ran serial = record {
      came = subst (λ d. IsRan t (view d number told ran')) (sym same_done)
          (subst (λ l. IsRan t (view done number told l)) (sym same_ran) is);
      some = some;
      number = same;
      all = all;
      legal = legal;
      mine = mine;
      its = its;
      every = every;
      mine_ran = mine_ran;
      its_ran = its_ran;
      serial = serial;
    }

module _ (h : HistoryView) (w : World) (is : IsTrueIn h w) (v : RanView) (back : IsBack h.front.table h v) where
  abbrev t : Layout
  t = h.front.table

  abbrev ds : List Delivered
  ds = h.front.out

  abbrev ran : IsRan t v
  ran = back.came

  layer : w.layer ≡ Taken ds
  layer = is_taken w.layer ds is.not_run is.at.shows.out back.some

  same_layer : ran.layer ≡ ds
  same_layer = takes_agree t v.told h.steps back.all back.legal.0 back.legal.1 back.its back.mine v.number ran.layer ds ran.hands_out
      (subst (λ n. HandsOut t h.steps n ds) (sym back.number) (out_is_handed h w is back.some))

  -- what was asked there was asked here
  asked_same : (i : RequestId) (a b : Request) → ran.world.asked i ≡ Some a → w.asked i ≡ Some b → a ≡ b
  asked_same i a b there here =
      let x = back.legal.0 in
      let one = asked_stays t v.told back.its.0 ran.world x ran.leads
      (subst (λ l. Leads t opening l x) (sym back.its.1) back.legal.1) i a there in
      let other = asked_stays t h.steps back.mine.0 w x is.at.leads
      (subst (λ l. Leads t opening l x) (sym back.mine.1) back.legal.1) i b here in
      some_same a b (sym one ∙ other)

  submitted : (d : Delivered) → In d ds → (a : Request) × HasFinal w d.id a d.stamp × (d.groups ≡ task_groups t a.task)
  submitted d there = layers_are_submitted t h.steps w is.at.leads ds layer d there

  rows : AllZip (IsRowOf w.asked) ds v.done
  rows = zip_in (IsRowOf ran.world.asked) (IsRowOf w.asked) ds v.done
      (λ d row there here of. let a = submitted d there in record {
        id = of.id;
        stamp = of.stamp;
        says = (a.0, a.1.submitted, of.says.2 ∙ ap (λ (r : Request). Ok r.task) (asked_same d.id of.says.0 a.0 of.says.1 a.1.submitted));
      }) (subst (λ l. AllZip (IsRowOf ran.world.asked) l v.done) same_layer ran.rows)

  pub its : Tells w.asked ds v.done
  its = tells w.asked ds v.done rows

  abbrev pub es : List Ended
  es = its.es

  of_layer : (e : Ended) → In e es → In (delivered_of e) ds
  of_layer e there = subst (In (delivered_of e)) its.came.each (in_delivered es e there)

  addressed : Addressed t es
  addressed e there =
      let a = its.came.tasks e there in
      let d = submitted (delivered_of e) (of_layer e there) in
      d.2 ∙ ap (λ (r : Request). task_groups t r.task) (some_same d.0 a.0 (sym d.1.submitted ∙ a.1)) ∙ ap (task_groups t) (sym a.2)

  -- ---- the store's list is that of before, and this layer

  pub ran_is : v.ran ≡ h.ran ++ v.done ∷ []
  ran_is =
      let before : IsPrefix ran.before back.every =
      begins_more ran.before (v.done ∷ []) back.every (subst (λ l. IsPrefix l back.every) ran.last back.its_ran) in
      ran.last ∙ ap (λ l. l ++ v.done ∷ [])
      (same_begin ran.before h.ran back.every before back.mine_ran (sym ran.counted ∙ back.number ∙ is.layers))

  layers_so : map (layer_of t) v.ran ≡ map (layer_of t) h.ran ++ ran_as es ∷ []
  layers_so = ap (map (layer_of t)) ran_is ∙ map-append (layer_of t) h.ran (v.done ∷ [])
      ∙ ap (λ l. map (layer_of t) h.ran ++ l ∷ []) (layer_told t es v.done addressed its.told)

  -- ---- the world runs it so

  pub runs : Steps t w (Run (names_of v.done)) (Ran (names_of v.done)) (with_run w es)
  runs = subst (λ ns. Steps t w (Run ns) (Ran ns) (with_run w es)) (sym (names_told es v.done its.told))
      (serial_is_true t h.steps w (map (layer_of t) h.ran) is.ran ds es layer its.came (subst (IsSerial t) layers_so back.serial))

  at_run : FrontIsAt h.front (h.steps ++ Run (names_of v.done) ∷ []) (with_run w es)
  at_run = sees_no_run h.front h.steps w is.at (names_of v.done) (Ran (names_of v.done)) (with_run w es) runs

  -- ---- so it is true of the layer that is out

  pub truth : IsTrueOf h.front v.done
  truth = record {
    history = h.steps ++ Run (names_of v.done) ∷ [];
    world = with_run w es;
    at = at_run;
    count = omega (arith, is.counted, length-append h.steps (Run (names_of v.done) ∷ []));
    ended = es;
    has_run = refl;
    told = told_so es v.done its.told;
  }

  -- ---- and the front shows it

  module _ (new : FrontView) (does : Settles h.front v.done new) (most : ℕ) (trace : Option Tape) where
    abbrev pub steps_after : List Step
    steps_after = (h.steps ++ Run (names_of v.done) ∷ []) ++ Settle ∷ []

    pub record After : Type 0 where
      pub world : World
      pub settles : Steps t (with_run w es) Settle Made world
      pub at : FrontIsAt new steps_after world

    pub after : After
    after =
        let next = does.from_each (h.steps ++ Run (names_of v.done) ∷ []) (with_run w es) at_run es refl
        (told_so es v.done its.told) in
        record { world = next.0; settles = next.1; at = next.2 }

    pub runs_after : Yields run_by t opening steps_after (is.ran.ended ++ es ∷ []) after.world
    runs_after = subst (λ l. Yields run_by t opening steps_after l after.world) (append-nil (is.ran.ended ++ es ∷ []))
        (one_more run_by t opening (with_run w es) after.world (h.steps ++ Run (names_of v.done) ∷ []) (is.ran.ended ++ es ∷ []) Settle Made
        (one_more run_by t opening w (with_run w es) h.steps is.ran.ended (Run (names_of v.done)) (Ran (names_of v.done)) is.ran.runs runs)
        after.settles)

    pub settle_leads : (u : World) × Leads t opening steps_after u
    settle_leads = (after.world, leads_of run_by t opening after.world steps_after (is.ran.ended ++ es ∷ []) runs_after)

    abbrev pub later : HistoryView
    later = record { front = new; max_steps = most; steps = steps_after; ran = v.ran; trace = trace }

    pub settled : IsTrueIn later after.world
    settled = record {
      at = after.at;
      not_run = subst HasNotRun (sym (ap (λ (u : World). u.layer) after.settles.after)) tt;
      ran = subst (λ s. AreRunsOf s steps_after after.world (map (layer_of s) v.ran)) (sym does.table) (record {
        ended = is.ran.ended ++ es ∷ [];
        runs = runs_after;
        each = layers_so ∙ ap (λ l. l ++ ran_as es ∷ []) is.ran.each ∙ sym (map-append ran_as is.ran.ended (es ∷ []));
      });
      layers = omega (arith, does.layers, is.layers, ap length ran_is, length-append h.ran (v.done ∷ []));
      counted = omega (
        arith,
        does.layers,
        does.steps,
        is.counted,
        length-append (h.steps ++ Run (names_of v.done) ∷ []) (Settle ∷ []),
        length-append h.steps (Run (names_of v.done) ∷ []),
      );
    }

    pub is_settled : length h.steps + 2 ≤ h.max_steps → most ≡ h.max_steps → IsSettled h v.done later
    is_settled left same = record {
      left = left;
      max_steps = same;
      table = does.table;
      out = does.out;
      steps = append_assoc h.steps (Run (names_of v.done) ∷ []) (Settle ∷ []);
      ran = ran_is;
      world = w;
      leads = is.at.leads;
      ended = es;
      runs = runs;
      after = after.world;
      settles = after.settles;
      told = its.told;
    }
