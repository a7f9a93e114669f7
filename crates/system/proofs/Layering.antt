-- Run and Settle of the halves are steps of the world.
use Rattle.std.proofs.Common.{◌≡◌, ℕ, ◌+◌, ◌≤◌, length, List, [], ◌∷◌, ◌++◌, map, Option, Some, None, refl, sym, ap, ◌∙◌, subst, arith}
use Rattle.std.proofs.Common.{length-append, Ok}
use Rattle.std.proofs.lemmas.List.{length-map}
use Rattle.std.proofs.lemmas.List.Sums.{sum_by-cons}
use Rattle.std.specs.Prelude.{option_map}
use Rattle.std.specs.Global.{Vec}
use Rattle.std.specs.List.{AllZip}
use Rattle.back.specs.Backs.{BackState}
use Rattle.back.specs.Rows.{done_of, results_of}
use Rattle.back.specs.Rows as back
use Rattle.back.specs.Runs.{HasRun}
use Rattle.tasks.specs.Starved.{starved_in}
use Rattle.back.proofs.Keeping.{zip_append}
use Rattle.front.specs.Fronts.{FrontView}
use Rattle.front.specs.Making.{SeesNoRun}
use Rattle.front.specs.Settling as settling
use Rattle.front.specs.Settling.{IsToldBy, IsTrueOf}
use Rattle.groups.specs.declared.request.RequestId.{RequestId}
use Rattle.groups.specs.declared.skip_id.SkipId.{SkipId}
use Rattle.groups.specs.declared.skip_id.SkipId.TheVariants.{Part}
use Rattle.journal.specs.Views.{RowView}
use Rattle.journal.specs.declared.step.Step.{Step}
use Rattle.journal.specs.declared.step.Step.TheVariants as step
use Rattle.layer_planner.specs.declared.job.Job.{Job}
use Rattle.layer_results.proofs.Names.{names_by_task, wants_in-few}
use Rattle.layer_results.specs.Results.{row_names, names_of}
use Rattle.layer_results.specs.declared.done.DoneRow.{DoneRow}
use Rattle.order_laws.proofs.SerialLaws.{rows_of-append, starved-append}
use Rattle.resp.specs.Content.{Content, content}
use Rattle.resp.specs.declared.answered.Answered.{Answered}
use Rattle.resp.specs.declared.reply.Reply.{Reply}
use Rattle.sessions.specs.declared.batch.Batch.TheVariants.{Plain, Exec}
use Rattle.shard_exec.specs.Layers.{AddressTheirGroups, IsOf, MayStarveInTurn}
use Rattle.shard_exec.specs.Stamps.{AreFresh}
use Rattle.shard_exec.specs.declared.done.Ended as run
use Rattle.shard_workers.specs.Runs.{outcome}
use Rattle.system.proofs.Fronting.{front_at, is_at, no_more}
use Rattle.system.proofs.Rest.{store_same}
use Rattle.system.proofs.Starving.{starves_rightly}
use Rattle.system.specs.Outcomes.{most_names, most_of}
use Rattle.system.specs.Halves.{IsAt, Makes, ShowsStage, StarvesRightly, ran_in}
use Rattle.system.specs.Refusing.{Lives, RefusesNot}
use Rattle.system.specs.declared.effect.Effect.TheVariants.{Made, Ran}
use Rattle.system.specs.declared.halves.Halves.{Halves}
use Rattle.system.specs.declared.stage.Stage.{Stage}
use Rattle.system.specs.declared.stage.Stage.TheVariants as stage
use Rattle.front.proofs.WorldRunning.{ShowsRun, ran_world, may_be_run, shows_run}
use Rattle.front.specs.Layers.{IsEnded, AreEnded, AreRows, IsRow, ShowsStore, starved_of}
use Rattle.tasks.specs.Tasks.{Task, task_reading, starved_names}
use Rattle.world.specs.Steps.{starved_among, RunsLayer, Settles, OwnFault, NothingToRun, Refused}
use Rattle.world.specs.Steps as world
use Rattle.world.specs.World.{World, Ended}
use Rattle.world.specs.World as layer
use Rattle.world_laws.specs.Headline.{with_row, rows_of}

-- ---- what came of a layer

ended_so : (e : Ended) (r : run.Ended) → IsEnded e r → (answered : Option Answered) → r.reply ≡ answered → outcome answered ≡ e.reply
ended_so e r is answered same = sym (ap outcome same) ∙ is.reply

-- the rows of the requests that were executed are kept
row_kept : (e : Ended) (r : run.Ended) → IsEnded e r → (answered : Option Answered) → r.reply ≡ answered → (xs : List _)
    (ys : List RowView) → AllZip IsRow xs ys → AllZip IsRow (with_row e e.reply xs) (back.with_row r answered ys)
row_kept e r is None same xs ys zip =
    subst (λ o. AllZip IsRow (with_row e o xs) ys) (ended_so e r is None same) zip
row_kept e r is (Some answered) same xs ys zip =
    subst (λ o. AllZip IsRow (with_row e o xs) (back.with_row r (Some answered) ys)) (ended_so e r is (Some answered) same)
    (record { id = is.id; stamp = is.stamp; says = is.says; starved = refl; reply = refl }, zip)

rows_kept : (es : List Ended) (rs : List run.Ended) → AreEnded es rs → AreRows es (back.rows_of rs)
rows_kept [] [] are = tt
rows_kept (e ∷ es) (r ∷ rs) are = row_kept e r are.0 r.reply refl (rows_of es) (back.rows_of rs) (rows_kept es rs are.1)
rows_kept es rs are = absurd are

-- the row that is handed on of a request
abbrev reply_in : Option Answered → Option Reply
reply_in answered = option_map (λ (a : Answered). a.reply) answered

content_in : (answered : Option Answered) → option_map content (reply_in answered) ≡ outcome answered
content_in None = refl
content_in (Some answered) = refl

-- the names of what starved are those of the world
row_names_same : (e : Ended) (r : run.Ended) → IsEnded e r → row_names (done_of r) ≡ starved_names e.id e.task e.reply
row_names_same e r is =
    names_by_task r.id r.words e.task (option_map content (reply_in r.reply)) is.says
    ∙ ap (λ o. starved_names r.id e.task o) (content_in r.reply ∙ is.reply)
    ∙ ap (λ i. starved_names i e.task e.reply) is.id

pub names_same : (es : List Ended) (rs : List run.Ended) → AreEnded es rs → names_of (results_of rs) ≡ starved_among es
names_same [] [] are = refl
names_same (e ∷ es) (r ∷ rs) are =
    ap (λ names. names ++ names_of (results_of rs)) (row_names_same e r are.0)
    ∙ ap (λ names. starved_names e.id e.task e.reply ++ names) (names_same es rs are.1)
names_same es rs are = absurd are

-- the rows tell what came of the layer, of each request at its place
told_for : (es : List Ended) (rs : List run.Ended) → AreEnded es rs → AllZip IsToldBy es (results_of rs)
told_for [] [] are = tt
told_for (e ∷ es) (r ∷ rs) are = (
  record { id = are.0.id; stamp = are.0.stamp; reply = sym are.0.reply ∙ sym (content_in r.reply) },
  told_for es rs are.1,
)
told_for es rs are = absurd are

-- no more names come than there may be
few_of : (id : RequestId) (task : Task) (reply : Option Content) → length (starved_names id task reply) ≤ most_names task
few_of id (Exec members) (Some reply) =
    let few = wants_in-few (length members) reply in
    let same = length-map (starved_in (Exec members) reply) (Part id) in
    omega arith
few_of id (Plain command) None = omega arith
few_of id task reply = omega arith

few_in : (js : List Job) (rs : List run.Ended) → AllZip IsOf js rs → length (names_of (results_of rs)) ≤ most_of js
few_in [] [] told = omega arith
few_in (j ∷ js) (r ∷ rs) told =
    let says : task_reading r.words ≡ Ok j.asked.batch = ap task_reading told.0.2 ∙ j.asked.says in
    let first = ap (λ (l : List SkipId). length l)
    (names_by_task r.id r.words j.asked.batch (option_map content (reply_in r.reply)) says) in
    let few = few_of r.id j.asked.batch (option_map content (reply_in r.reply)) in
    let rest = few_in js rs told.1 in
    let all : length (names_of (results_of (r ∷ rs))) ≡ length (row_names (done_of r)) + length (names_of (results_of rs)) =
    length-append (row_names (done_of r)) (names_of (results_of rs)) in
    let most : most_of (j ∷ js) ≡ most_names j.asked.batch + most_of js =
    sum_by-cons (λ (n : ℕ). n) (most_names j.asked.batch) (map (λ (i : Job). most_names i.asked.batch) js) in
    omega arith
few_in js rs told = absurd told

abbrev taken_or : Stage → List Job → List Job
taken_or (stage.Taken taken) other = taken
taken_or _ other = other

-- of the layer that was there they are no more than there is room for
pub few_names : (old mid : BackState) (skip : List SkipId) (s : Stage) (there taken : List Job) (done : List DoneRow) →
    s ≡ stage.Taken there → s ≡ stage.Taken taken → HasRun old skip taken mid → done ≡ mid.last → length (names_of done) ≤ most_of there
few_names old mid skip s there taken done is_there is_taken ran handed =
    let most = ap (λ x. most_of (taken_or x there)) (sym is_there ∙ is_taken) in
    let names = ap (λ (d : List DoneRow). length (names_of d)) (handed ∙ ran.last) in
    let few = few_in taken ran.ended ran.store.done.told in
    omega arith

-- ---- Run

module _ (old : Halves) (mid : BackState) (taken : List Job) (done : List DoneRow) (starved : Vec SkipId) (skip names : List SkipId)
    (sees : SeesNoRun old.front) (is_taken : old.stage ≡ stage.Taken taken) (ran : HasRun old.back skip taken mid)
    (handed : done ≡ mid.last) (names_are : names ≡ names_of done)
    (adds : starved.items ≡ old.starved.items ++ names_of done) where
  abbrev pub ran_halves : Halves
  ran_halves = record old {
    back = record mid { last = [] };
    stage = stage.HasRun done;
    starved = starved;
  }

  came : done ≡ results_of ran.ended
  came = handed ∙ ran.last

  module _ (h : List Step) (w : World) (at' : IsAt old h w) (shows : ShowsStage (stage.Taken taken) w) where
    shown : ShowsRun old.back.store.table w old.front.router ran.ended mid.store
    shown = shows_run old.back.store.table w h shows.0 taken old.front.router old.back.store mid.store skip
        ran.ended at'.leads shows.1 shows.2 at'.shows.store at'.shows.connections ran.store

    names_there : names_of done ≡ starved_among shown.es
    names_there = ap names_of came ∙ names_same shown.es ran.ended shown.ended

    names_run : names ≡ starved_of ran.ended
    names_run = names_are ∙ names_there ∙ sym shown.starved

    rows_more : AreRows w.ended old.back.rows → AreRows (w.ended ++ shown.es) (old.back.rows ++ back.rows_of ran.ended)
    rows_more rows =
        subst (λ l. AllZip IsRow l (old.back.rows ++ back.rows_of ran.ended)) (sym (rows_of-append w.ended shown.es))
        (zip_append IsRow (rows_of w.ended) (rows_of shown.es) old.back.rows (back.rows_of ran.ended) rows
        (rows_kept shown.es ran.ended shown.ended))

    by_stage : (w' : World) × RunsLayer w names (world.Ran names) w' × IsAt ran_halves (h ++ step.Run names ∷ []) w'
    by_stage =
        let after = ran_world w shown.es in
        let steps : RunsLayer w names (world.Ran names) after =
        subst (λ is. RunsLayer w is (world.Ran is) after) (sym names_run) shown.runs in (
          after,
          steps,
          is_at ran_halves (h ++ step.Run names ∷ []) after (at'.shows.table ∙ sym ran.store.table)
              (sees h w (front_at old h w at') names (world.Ran names) after steps)
              (subst (λ t. ShowsStore t mid.store after) (sym ran.store.table) shown.store)
              (shown.es, refl, record { told = ran.ended; are = shown.ended; same = came })
              (subst (λ rows. AreRows (w.ended ++ shown.es) rows) (sym ran.rows) (rows_more at'.shows.rows))
              (adds ∙ ap (λ is. is ++ names_of done) at'.shows.starved
              ∙ ap (λ is. starved_among w.ended ++ is) names_there ∙ sym (starved-append w.ended shown.es)),
        )

    rightly : StarvesRightly old skip names w
    rightly = subst (λ is. StarvesRightly old skip is w) (sym names_run)
        (starves_rightly old w skip shows.0 taken ran.ended mid.store shown shows.1 shows.2 ran.addressed ran.store.done.told
        (subst (λ m. MayStarveInTurn old.back.store.table m skip taken ran.ended) at'.shows.store.contents ran.store.done.starved))

  pub run_makes : Makes old (step.Run skip) (Ran names) ran_halves
  run_makes = record {
    table = ran.store.table;
    counted = let none : ran_in old.stage ≡ 0 = ap ran_in is_taken in omega arith;
    from_each = λ h w at'. by_stage h w at' (subst (λ s. ShowsStage s w) is_taken at'.shows.stage);
    starves = λ h w at'. rightly h w at' (subst (λ s. ShowsStage s w) is_taken at'.shows.stage);
    rows = (back.rows_of ran.ended, ran.rows);
  }

-- what running asks of the layer holds of it
pub run_may : (p : Halves) → Lives p → (taken : List Job) → p.stage ≡ stage.Taken taken →
    AddressTheirGroups p.back.store.table taken × AreFresh p.back.store.lasts taken
run_may p lives taken is_taken =
    let shows = subst (λ s. ShowsStage s lives.world) is_taken lives.at.shows.stage in
    may_be_run p.back.store.table p.back.store lives.world lives.history shows.0 taken lives.at.leads shows.1 shows.2
    lives.at.shows.store

-- so a Run has no fault of its own
pub run_admitted : (p : Halves) (taken : List Job) → p.stage ≡ stage.Taken taken → (skip : List SkipId) → RefusesNot p (step.Run skip)
run_admitted p taken is_taken skip = λ h w at'. by_fault w (subst (λ s. ShowsStage s w) is_taken at'.shows.stage)
  where
    by_fault : (w : World) → ShowsStage (stage.Taken taken) w → (fault : OwnFault) → ¬ Refused w (step.Run skip) fault
    by_fault w shows world.NoLayer refused = subst NothingToRun shows.1 refused
    by_fault w shows fault refused = refused

-- ---- Settle

module _ (old : Halves) (f : FrontView) (done : List DoneRow) (has_run : old.stage ≡ stage.HasRun done)
    (settles : settling.Settles old.front done f) where
  abbrev pub settled_halves : Halves
  settled_halves = record old { front = f; stage = stage.Free }

  module _ (h : List Step) (w : World) (at' : IsAt old h w) (es : List Ended) (ran : w.layer ≡ layer.HasRun es)
      (rs : List run.Ended) (are : AreEnded es rs) (came : done ≡ results_of rs) where
    settles_there : (w' : World) × Settles w world.Made w' × IsAt settled_halves (h ++ step.Settle ∷ []) w'
    settles_there =
        let next = settles.from_each h w (front_at old h w at') es ran
        (subst (λ d. AllZip IsToldBy es d) (sym came) (told_for es rs are)) in
        let w' = next.0 in
        let made : Settles w world.Made w' = next.1 in
        let ended = ap (λ (v : World). v.ended) made.after in (
          w',
          made,
          is_at settled_halves (h ++ step.Settle ∷ []) w' (settles.table ∙ at'.shows.table) next.2
              (store_same old.back.store.table old.back.store w w' ended (ap (λ (v : World). v.contents) made.after) at'.shows.store)
              (ap (λ (v : World). v.layer) made.after)
              (subst (λ l. AreRows l old.back.rows) (sym ended) at'.shows.rows)
              (at'.shows.starved ∙ ap starved_among (sym ended)),
        )

  pub settle_makes : Makes old step.Settle Made settled_halves
  settle_makes = record {
    table = refl;
    counted =
        let one : ran_in old.stage ≡ 1 = ap ran_in has_run in
        let steps = settles.steps in
        let layers = settles.layers in
        omega arith;
    from_each = λ h w at'.
        let shows = subst (λ s. ShowsStage s w) has_run at'.shows.stage in
        settles_there h w at' shows.0 shows.1 shows.2.told shows.2.are shows.2.same;
    starves = λ h w at'. tt;
    rows = no_more old.back.rows;
  }

-- what came of the layer that was run is true of the layer that is out
pub settle_truth : (p : Halves) → Lives p → (done : List DoneRow) → p.stage ≡ stage.HasRun done → IsTrueOf p.front done
settle_truth p lives done has_run =
    let shows = subst (λ s. ShowsStage s lives.world) has_run lives.at.shows.stage in
    record {
      history = lives.history;
      world = lives.world;
      at = front_at p lives.history lives.world lives.at;
      count = let counted = lives.counted in let one : ran_in p.stage ≡ 1 = ap ran_in has_run in omega arith;
      ended = shows.0;
      has_run = shows.1;
      told = subst (λ d. AllZip IsToldBy shows.0 d) (sym shows.2.same) (told_for shows.0 shows.2.told shows.2.are);
    }
