-- A layer that is run in the system is run in the world.
use Rattle.std.proofs.Common.{refl, sym, ap, ◌∙◌, subst, inl, inr, append-nil}
use Rattle.std.proofs.Math.Seq.{append_snoc}
use Rattle.std.specs.List.{AllZip}
use Rattle.std.specs.Prelude.{◌≡◌, ℕ, true, cond, List, [], ◌∷◌, ◌++◌, map, Option, Some, None}
use Rattle.groups.specs.GroupSet.{has}
use Rattle.keyspace.specs.Map.{Map}
use Rattle.journal.specs.declared.step.Step.{Step}
use Rattle.layer_planner.specs.declared.job.Job.{Job}
use Rattle.layer_results.proofs.Names.{names_by_task}
use Rattle.placement.specs.Layout.{Layout}
use Rattle.resp.specs.Content.{Content}
use Rattle.router.specs.Router.{RouterView, connection}
use Rattle.shard_exec.proofs.LastStamps.{raised_last}
use Rattle.shard_exec.specs.Layers.{tasks_of, AddressTheirGroups, outcomes_of_ended, IsOf}
use Rattle.shard_workers.specs.Runs.{outcome}
use Rattle.shard_exec.specs.Stamps.{last_of, is_above, IsFresh, AreFresh, raised}
use Rattle.shard_exec.specs.StoreStates.{StoreState}
use Rattle.shard_exec.specs.Stores.{HasRunLayer}
use Rattle.shard_exec.specs.declared.done.Ended as run
use Rattle.shards.specs.Joined.{joined}
use Rattle.shards.specs.Layer.{AnsweredInTurn}
use Rattle.groups.proofs.Options.{some_same}
use Rattle.groups.proofs.Lists.{In-left, In-right}
use Rattle.skeen_core.specs.Group.{EachOnce, has_id}
use Rattle.groups.specs.Order.{In}
use Rattle.groups.specs.Skips.{names_whole, parts_of}
use Rattle.groups.specs.Stamp.{stamp_lt}
use Rattle.skeen_core.specs.declared.packet.Delivered.{Delivered}
use Rattle.groups.specs.declared.request.RequestId.{RequestId}
use Rattle.groups.specs.declared.skip_id.SkipId.{SkipId}
use Rattle.groups.specs.declared.stamp.Stamp.{Stamp}
use Rattle.tasks.specs.Tasks.{Task, task_reading, task_groups, deed_effect, starved_names}
use Rattle.front.proofs.WorldConnections.{Alike, connection_alike}
use Rattle.front.proofs.WorldJobs.{all_jobs}
use Rattle.front.specs.Connections.{InLayer, id_of, IsSettled, ShowsConnections}
use Rattle.front.specs.Layers.{IsJob, AreJobs, AreEnded, starved_of, ShowsStore}
use Rattle.world.specs.Steps.{opening, Ran, map_after, after_all, ended_as, RunInTurn, starved_among, RunsLayer, Leads}
use Rattle.world.specs.World.{World, Request, Ended, Layer, Taken, HasRun}
use Rattle.world_laws.proofs.ConditionLaws.{layer_is_submitted, layer_is_above}
use Rattle.world_laws.proofs.Layers.{run_of_layer, taken_once}
use Rattle.world_laws.proofs.Names.{Tells, IsAnswer, ends_again, TellsEach, starved_tell}
use Rattle.world_laws.proofs.Worlds.{good_world}
use Rattle.world_laws.specs.Good.{Asked, run_in, all_delivered, all_taken, TakenGood, WorldGood}
use Rattle.world_laws.specs.Order.{ids_of}

-- ---- a layer that was taken may be run

-- a request's stamp is above a last one where it is above each that there is
above_of : (last : Option Stamp) (stamp : Stamp) →
    ((before : Stamp) → last ≡ Some before → stamp_lt before stamp ≡ true) → is_above last stamp ≡ true
above_of None stamp above = refl
above_of (Some before) stamp above = above before refl

module _ (t : Layout) (s : StoreState) (w : World) (ds : List Delivered) (good : WorldGood t w)
    (is_taken : w.layer ≡ Taken ds) (shows : ShowsStore t s w) where
  job_addresses : (d : Delivered) (j : Job) → In d ds → IsJob w.asked d j →
      j.groups ≡ task_groups s.table j.asked.batch
  job_addresses d j there is =
      let submitted = layer_is_submitted t w good ds is_taken d there in
      let same : submitted.0 ≡ is.asked_so.0 =
      some_same submitted.0 is.asked_so.0 (sym submitted.1.submitted ∙ is.asked_so.1) in
      is.groups ∙ submitted.2 ∙ ap (λ (q : Request). task_groups t q.task) same ∙ ap (task_groups t) is.asked_so.2
      ∙ ap (λ (l : Layout). task_groups l j.asked.batch) (sym shows.table)

  job_is_fresh : (d : Delivered) (j : Job) → In d ds → IsJob w.asked d j → IsFresh s.lasts j
  job_is_fresh d j there is g member = above_of (last_of s.lasts g) j.stamp (λ before e.
      let last = shows.lasts g before e in
      let above = layer_is_above t w good ds is_taken d there last.0 last.1 g last.2
      (subst (λ gs. has gs g ≡ true) is.groups member) in
      ap (λ x. stamp_lt x j.stamp) (sym last.3) ∙ ap (λ x. stamp_lt last.0.stamp x) is.stamp ∙ above)

-- what the store asks of a layer holds of one that was taken
pub may_be_run : (t : Layout) (s : StoreState) (w : World) (steps : List Step) (ds : List Delivered) (js : List Job) →
    Leads t opening steps w → w.layer ≡ Taken ds → AreJobs w.asked ds js → ShowsStore t s w →
    AddressTheirGroups s.table js × AreFresh s.lasts js
may_be_run t s w steps ds js leads is_taken are shows =
    let good = good_world t steps w leads in (
      all_jobs (λ j. j.groups ≡ task_groups s.table j.asked.batch) w.asked ds js are
          (job_addresses t s w ds good is_taken shows),
      all_jobs (IsFresh s.lasts) w.asked ds js are (job_is_fresh t s w ds good is_taken shows),
    )

-- ---- the requests that ended

abbrev ended_by : Job → run.Ended → Ended
ended_by j r = record { id = j.id; stamp = j.stamp; groups = j.groups; task = j.asked.batch; reply = outcome r.reply }

-- how the requests of a layer ended, as the world tells of them
abbrev pub ended_in : List Job → List run.Ended → List Ended
ended_in (j ∷ js) (r ∷ rs) = ended_by j r ∷ ended_in js rs
ended_in js rs = []

are_ended : (js : List Job) (rs : List run.Ended) → AllZip IsOf js rs → AreEnded (ended_in js rs) rs
are_ended [] [] told = tt
are_ended (j ∷ js) (r ∷ rs) told = (
  record { id = told.0.0; stamp = told.0.1; reply = refl; says = ap task_reading told.0.2 ∙ j.asked.says },
  are_ended js rs told.1,
)
are_ended js rs told = absurd told

-- ---- who starved

abbrev ids_delivered : List Delivered → List RequestId
ids_delivered ds = map (λ d. d.id) ds

-- the names that the store tells are those of the world
pub starved_same : (js : List Job) (rs : List run.Ended) → AllZip IsOf js rs →
    starved_of rs ≡ starved_among (ended_in js rs)
starved_same [] [] told = refl
starved_same (j ∷ js) (r ∷ rs) told =
    ap (λ l. l ++ starved_of rs) (names_by_task r.id r.words j.asked.batch (outcome r.reply) (ap task_reading told.0.2 ∙ j.asked.says)
    ∙ ap (λ i. starved_names i j.asked.batch (outcome r.reply)) told.0.0)
    ∙ ap (λ l. starved_names j.id j.asked.batch (outcome r.reply) ++ l) (starved_same js rs told.1)
starved_same js rs told = absurd told

in_delivered_ids : (ds : List Delivered) (i : RequestId) → In i (ids_delivered ds) →
    (d : Delivered) × In d ds × (i ≡ d.id)
in_delivered_ids [] i there = absurd there
in_delivered_ids (d ∷ ds) i (inl same) = (d, inl refl, same)
in_delivered_ids (d ∷ ds) i (inr there) = let rest = in_delivered_ids ds i there in (rest.0, inr rest.1, rest.2)

-- each id stands once in what was taken last
once_taken : (t : Layout) (w : World) (front ds : List Delivered) → WorldGood t w →
    TakenGood w.asked w.proposed w.gone (front ++ ds) → EachOnce (ids_delivered ds)
once_taken t w front [] good taken = tt
once_taken t w front (d ∷ ds) good taken = (
  λ there. let e = in_delivered_ids ds d.id there in
      taken_once t w.asked w.proposed w.gone w.seq w.last (front ++ d ∷ []) ds good.requests moved d e.0
      (In-right d front (d ∷ []) (inl refl)) e.1 e.2,
  once_taken t w (front ++ d ∷ []) ds good moved,
)
  where
    moved : TakenGood w.asked w.proposed w.gone ((front ++ d ∷ []) ++ ds)
    moved = subst (λ l. TakenGood w.asked w.proposed w.gone l) (sym (append_snoc front d ds)) taken

once_layer : (t : Layout) (w : World) (ds : List Delivered) → WorldGood t w → w.layer ≡ Taken ds →
    EachOnce (ids_delivered ds)
once_layer t w ds good is_taken = once_taken t w (all_delivered w.ended) ds good
    (subst (λ l. TakenGood w.asked w.proposed w.gone (all_taken w.ended l)) is_taken good.taken)

ids_same : (asked : Asked) (ds : List Delivered) (js : List Job) (rs : List run.Ended) →
    AreJobs asked ds js → AllZip IsOf js rs → ids_delivered ds ≡ ids_of (ended_in js rs)
ids_same asked [] [] [] are told = refl
ids_same asked [] (j ∷ js) rs are told = absurd are
ids_same asked (d ∷ ds) [] rs are told = absurd are
ids_same asked (d ∷ ds) (j ∷ js) (r ∷ rs) are told =
    ap (λ i. i ∷ ids_delivered ds) (sym are.0.id)
    ∙ ap (λ l. j.id ∷ l) (ids_same asked ds js rs are.1 told.1)
ids_same asked ds js rs are told = absurd told

-- where each id stands once, the names that the store tells name just the requests that starved as a whole, and of each other one
-- its members that did
pub tells_starved : (js : List Job) (rs : List run.Ended) → AllZip IsOf js rs → EachOnce (ids_of (ended_in js rs)) →
    TellsEach (starved_of rs) (ended_in js rs)
tells_starved js rs told once =
    subst (λ names. TellsEach names (ended_in js rs)) (sym (starved_same js rs told)) (starved_tell (ended_in js rs) once)

-- ---- one after another

-- the first of the tasks starved, or was answered on the map; the others go on from what it left
answered_first : (o : Option Content) (m new : Map) (c : Task) (cs : List Task) (os : List (Option Content)) →
    AnsweredInTurn m (c ∷ cs) (o ∷ os) new → IsAnswer m c o × AnsweredInTurn (map_after o c m) cs os new
answered_first None m new c cs os answered = (tt, answered)
answered_first (Some reply) m new c cs os answered = answered

contents_after : (m new : Map) (js : List Job) (rs : List run.Ended) →
    AnsweredInTurn m (tasks_of js) (outcomes_of_ended rs) new → new ≡ after_all m (ended_in js rs)
contents_after m new [] [] answered = answered
contents_after m new (j ∷ js) (r ∷ rs) answered = contents_after (map_after (outcome r.reply) j.asked.batch m) new js rs
    (answered_first (outcome r.reply) m new j.asked.batch (tasks_of js) (outcomes_of_ended rs) answered).1
contents_after m new js rs answered = absurd answered

-- a request ends as the world says
ends_as : (asked : Asked) (starved : List SkipId) (m : Map) (d : Delivered) (j : Job)
    (r : run.Ended) → (is : IsJob asked d j) → Tells starved j.id j.asked.batch (outcome r.reply) →
    IsAnswer m j.asked.batch (outcome r.reply) → ended_by j r ≡ ended_as starved m d is.asked_so.0.task
ends_as asked starved m d j r is tells answer = λ i. record {
  id = is.id i;
  stamp = is.stamp i;
  groups = is.groups i;
  task = task i;
  reply = reply i;
}
  where
    task : j.asked.batch ≡ is.asked_so.0.task
    task = sym is.asked_so.2

    reply : outcome r.reply ≡ cond (names_whole starved d.id) None (Some (deed_effect (is.asked_so.0.task, parts_of starved d.id) m).1)
    reply =
        ends_again starved j.id j.asked.batch (outcome r.reply) m tells answer
        ∙ ap (λ i. cond (names_whole starved i) None (Some (deed_effect (j.asked.batch, parts_of starved i) m).1)) is.id
        ∙ ap (λ c. cond (names_whole starved d.id) None (Some (deed_effect (c, parts_of starved d.id) m).1)) task

run_in_turn : (asked : Asked) (starved : List SkipId) (m new : Map) (ds : List Delivered) (js : List Job)
    (rs : List run.Ended) → AreJobs asked ds js → AllZip IsOf js rs →
    TellsEach starved (ended_in js rs) → AnsweredInTurn m (tasks_of js) (outcomes_of_ended rs) new →
    RunInTurn asked starved m ds (ended_in js rs)
run_in_turn asked starved m new [] [] [] are told tells answered = refl
run_in_turn asked starved m new [] (j ∷ js) rs are told tells answered = absurd are
run_in_turn asked starved m new (d ∷ ds) [] rs are told tells answered = absurd are
run_in_turn asked starved m new (d ∷ ds) (j ∷ js) (r ∷ rs) are told tells answered =
    let first = answered_first (outcome r.reply) m new j.asked.batch (tasks_of js) (outcomes_of_ended rs) answered in (
      (are.0.asked_so.0, are.0.asked_so.1, ends_as asked starved m d j r are.0 tells.0 first.0),
      run_in_turn asked starved (map_after (outcome r.reply) j.asked.batch m) new ds js rs are.1 told.1 tells.1 first.1,
    )
run_in_turn asked starved m new ds js rs are told tells answered = absurd told

-- ---- the last stamps

-- each request of the layer ended
in_ended : (js : List Job) (rs : List run.Ended) (j : Job) → AllZip IsOf js rs → In j js →
    (e : Ended) × In e (ended_in js rs) × (e.groups ≡ j.groups) × (e.stamp ≡ j.stamp)
in_ended [] rs j told there = absurd there
in_ended (k ∷ ks) [] j told there = absurd told
in_ended (k ∷ ks) (r ∷ rs) j told (inl same) =
    (ended_by k r, inl refl, ap (λ (x : Job). x.groups) (sym same), ap (λ (x : Job). x.stamp) (sym same))
in_ended (k ∷ ks) (r ∷ rs) j told (inr there) =
    let rest = in_ended ks rs j told.1 there in (rest.0, inr rest.1, rest.2, rest.3)

-- ---- the world after it

-- the world once its layer was run, and its requests ended so
abbrev pub ran_world : World → List Ended → World
ran_world w es = record w { layer = HasRun es; ended = w.ended ++ es; contents = after_all w.contents es }

pub store_run : (t : Layout) (old new : StoreState) (w : World) (skip : List SkipId) (js : List Job)
    (rs : List run.Ended) → HasRunLayer old skip js rs new → ShowsStore t old w →
    ShowsStore t new (ran_world w (ended_in js rs))
store_run t old new w skip js rs ran shows = record {
  table = ran.table ∙ shows.table;
  lives = ran.goes_on;
  contents = contents_after (joined old.maps) (joined new.maps) js rs ran.done.in_turn
      ∙ ap (λ m. after_all m (ended_in js rs)) shows.contents;
  lasts = λ g stamp e.
      let is : last_of (raised old.lasts js) g ≡ Some stamp = ap (λ l. last_of l g) (sym ran.lasts) ∙ e in
      elim (raised_last old.lasts js g) [
        | inl same ↦
            let it = shows.lasts g stamp (sym same ∙ is) in
            (it.0, In-left it.0 w.ended (ended_in js rs) it.1, it.2, it.3)
        | inr raised ↦
            let it = in_ended js rs raised.0 ran.done.told raised.1 in (
              it.0,
              In-right it.0 w.ended (ended_in js rs) it.1,
              ap (λ gs. has gs g) it.2 ∙ raised.2,
              it.3 ∙ some_same raised.0.stamp stamp (sym raised.3 ∙ is),
            )
      ];
}

-- ---- connections, while a layer is run

module _ (w : World) (ds : List Delivered) (es : List Ended) (is_taken : w.layer ≡ Taken ds)
    (same : all_delivered es ≡ ds) where
  alike_run : (c : ℕ) → Alike w (ran_world w es) c
  alike_run c = record {
    standing = refl;
    seq = refl;
    floor = λ free. refl;
    asked = λ seq. refl;
    layer = λ seq there. subst (λ l. has_id l (id_of c seq) ≡ true) (sym same)
        (subst (λ (l : Layer). InLayer l (id_of c seq)) is_taken there);
  }

  -- what was settled before is so still
  settled_run : (i : RequestId) → IsSettled w i → IsSettled (ran_world w es) i
  settled_run i settled = (
    settled.0,
    ap (λ l. l ++ es) (settled.1 ∙ ap (λ l. settled.0 ++ run_in l) is_taken ∙ append-nil settled.0),
    settled.2,
  )

  pub connections_run : (r : RouterView) → ShowsConnections r w → ShowsConnections r (ran_world w es)
  connections_run r shows = record {
    opened = shows.opened;
    each = λ c. connection_alike (connection r c) w (ran_world w es) c (alike_run c) (shows.each c);
    sessions = shows.sessions;
    under_way = λ i q asked. elim (shows.under_way i q asked) [
      | inl settled ↦ inl (settled_run i settled)
      | inr kept ↦ inr kept
    ];
  }

-- ---- the layer

-- the layer is run in the world, and the store and the router show the world after it
pub record ShowsRun (t : Layout) (w : World) (r : RouterView) (rs : List run.Ended) (new : StoreState) : Type 0 where
  pub es : List Ended
  pub ended : AreEnded es rs
  pub starved : starved_of rs ≡ starved_among es
  pub runs : RunsLayer w (starved_of rs) (Ran (starved_of rs)) (ran_world w es)
  pub store : ShowsStore t new (ran_world w es)
  pub connections : ShowsConnections r (ran_world w es)

pub shows_run : (t : Layout) (w : World) (steps : List Step) (ds : List Delivered) (js : List Job)
    (r : RouterView) (old new : StoreState) (skip : List SkipId) (rs : List run.Ended) →
    Leads t opening steps w → w.layer ≡ Taken ds → AreJobs w.asked ds js → ShowsStore t old w →
    ShowsConnections r w → HasRunLayer old skip js rs new → ShowsRun t w r rs new
shows_run t w steps ds js r old new skip rs leads is_taken are store connections ran = record {
  es = ended_in js rs;
  ended = are_ended js rs told;
  starved = starved_same js rs told;
  runs = record {
    layer = ds;
    outcomes = ended_in js rs;
    there = is_taken;
    in_turn = in_turn;
    answers = ap Ran (starved_same js rs told);
    after = refl;
  };
  store = store_run t old new w skip js rs ran store;
  connections = connections_run w ds (ended_in js rs) is_taken
      (run_of_layer w.asked (starved_of rs) w.contents ds (ended_in js rs) in_turn) r connections;
}
  where
    told : AllZip IsOf js rs
    told = ran.done.told

    once : EachOnce (ids_of (ended_in js rs))
    once = subst EachOnce (ids_same w.asked ds js rs are ran.done.told)
        (once_layer t w ds (good_world t steps w leads) is_taken)

    in_turn : RunInTurn w.asked (starved_of rs) w.contents ds (ended_in js rs)
    in_turn = run_in_turn w.asked (starved_of rs) w.contents (joined new.maps) ds js rs are ran.done.told
        (tells_starved js rs told once)
        (subst (λ m. AnsweredInTurn m (tasks_of js) (outcomes_of_ended rs) (joined new.maps)) store.contents
        ran.done.in_turn)
