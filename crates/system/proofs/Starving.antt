-- Of a layer that was run: each request that was named starved, and each member that was; and each other one that starved is one
-- that there may have been no memory to answer.
use Rattle.std.proofs.Common.{◌≡◌, true, false, inl, inr, List, [], ◌∷◌, Option, Some, None, refl, sym, ap, ◌∙◌, subst}
use Rattle.std.specs.List.{AllZip}
use Rattle.groups.specs.Order.{In}
use Rattle.groups.specs.Skips.{names_whole, parts_of}
use Rattle.groups.specs.declared.request.RequestId.{RequestId}
use Rattle.groups.specs.declared.skip_id.SkipId.{SkipId}
use Rattle.keyspace.specs.Map.{Map}
use Rattle.layer_planner.specs.declared.job.Job.{Job}
use Rattle.placement.specs.Layout.{Layout}
use Rattle.resp.specs.Content.{Content}
use Rattle.shard_exec.specs.Layers.{AddressTheirGroups, IsOf, MayStarve, MayStarveInTurn, on_groups, left_by}
use Rattle.shard_exec.specs.StoreStates.{StoreState}
use Rattle.shard_exec.specs.declared.done.Ended as run
use Rattle.shard_workers.specs.Runs.{outcome}
use Rattle.skeen_core.specs.declared.packet.Delivered.{Delivered}
use Rattle.tasks.specs.Tasks.{Task, task_reading, task_groups, task_takes_memory, MembersStarveRightly}
use Rattle.system.proofs.Names.{whole_in, whole_starved}
use Rattle.system.specs.Halves.{StarvesSo, StarveInTurn, StarvesRightly, met_by}
use Rattle.system.specs.declared.halves.Halves.{Halves}
use Rattle.front.proofs.WorldRunning.{ShowsRun}
use Rattle.front.specs.Layers.{AreJobs, IsEnded, AreEnded, starved_of}
use Rattle.world.specs.Steps.{map_after, starved_among}
use Rattle.world.specs.World.{World, Ended, Taken}
use Rattle.world_laws.specs.Good.{Asked, run_in, taken_in}

-- ---- those that are named

-- a request of the layer that was to be skipped as a whole is among those that starved so
pub record HasStarved (es : List Ended) (id : RequestId) : Type 0 where
  pub ended : Ended
  pub there : In ended es
  pub id_is : ended.id ≡ id
  pub none : ended.reply ≡ None

has_later : (e : Ended) (es : List Ended) (id : RequestId) → HasStarved es id → HasStarved (e ∷ es) id
has_later e es id has = record { ended = has.ended; there = inr has.there; id_is = has.id_is; none = has.none }

named_starve : (table : Layout) (m : Map) (skip : List SkipId) (asked : Asked) (ds : List Delivered) (js : List Job)
    (rs : List run.Ended) (es : List Ended) → AreJobs asked ds js → AllZip IsOf js rs → AreEnded es rs →
    MayStarveInTurn table m skip js rs → (d : Delivered) → In d ds → names_whole skip d.id ≡ true → HasStarved es d.id
named_starve table m skip asked [] js rs es are told ended starve d there skipped = absurd there
named_starve table m skip asked (f ∷ ds) [] rs es are told ended starve d there skipped = absurd are
named_starve table m skip asked (f ∷ ds) (j ∷ js) [] es are told ended starve d there skipped = absurd told
named_starve table m skip asked (f ∷ ds) (j ∷ js) (r ∷ rs) [] are told ended starve d there skipped = absurd ended
named_starve table m skip asked (f ∷ ds) (j ∷ js) (r ∷ rs) (e ∷ es) are told ended starve d (inl first) skipped =
    let job : j.id ≡ d.id = are.0.id ∙ sym (ap (λ (x : Delivered). x.id) first) in
    let named : names_whole skip j.id ≡ true = ap (names_whole skip) job ∙ skipped in
    record {
      ended = e;
      there = inl refl;
      id_is = sym ended.0.id ∙ told.0.0 ∙ job;
      none = sym ended.0.reply ∙ starve.0.skipped named;
    }
named_starve table m skip asked (f ∷ ds) (j ∷ js) (r ∷ rs) (e ∷ es) are told ended starve d (inr there) skipped =
    has_later e es d.id
    (named_starve table (left_by j.asked.batch m (outcome r.reply)) skip asked ds js rs es are.1 told.1 ended.1 starve.1 d there skipped)

-- ---- the others

left_same : (task : Task) (m : Map) (reply : Option Content) → left_by task m reply ≡ map_after reply task m
left_same task m None = refl
left_same task m (Some reply) = refl

-- the words of a request say its task, before and after
pub same_task : (j : Job) (e : Ended) (r : run.Ended) → IsOf j r → IsEnded e r → j.asked.batch ≡ e.task
same_task j e r of ended =
    let both = sym j.asked.says ∙ ap task_reading (sym of.2) ∙ ended.says in cc

module _ (table : Layout) (m : Map) (skip : List SkipId) (j : Job) (e : Ended) (r : run.Ended)
    (address : j.groups ≡ task_groups table j.asked.batch) (of : IsOf j r) (ended : IsEnded e r) (starve : MayStarve table m skip j r) where
  job_id : j.id ≡ e.id
  job_id = sym of.0 ∙ ended.id

  met : on_groups table j.groups m ≡ met_by table e.task m
  met = ap (λ gs. on_groups table gs m) address ∙ ap (λ c. met_by table c m) (same_task j e r of ended)

  starves_so : StarvesSo table skip m e
  starves_so = record {
    whole = λ none passed.
        let named : names_whole skip j.id ≡ false = ap (names_whole skip) job_id ∙ passed in
        subst (λ c. task_takes_memory c (met_by table e.task m)) (same_task j e r of ended)
        (subst (task_takes_memory j.asked.batch) met (starve.starved named (ended.reply ∙ none)));
    members = λ reply some.
        subst (λ i. MembersStarveRightly (parts_of skip i) e.task (met_by table e.task m) reply) job_id
        (subst (λ c. MembersStarveRightly (parts_of skip j.id) c (met_by table e.task m) reply) (same_task j e r of ended)
        (subst (λ n. MembersStarveRightly (parts_of skip j.id) j.asked.batch n reply) met
        (starve.members reply (ended.reply ∙ some))));
  }

starve_in_turn : (table : Layout) (m : Map) (skip : List SkipId) (js : List Job) (rs : List run.Ended) (es : List Ended) →
    AddressTheirGroups table js → AllZip IsOf js rs → AreEnded es rs → MayStarveInTurn table m skip js rs →
    StarveInTurn table skip m es
starve_in_turn table m skip js rs [] address told ended starve = tt
starve_in_turn table m skip js [] (e ∷ es) address told ended starve = absurd ended
starve_in_turn table m skip [] (r ∷ rs) (e ∷ es) address told ended starve = absurd told
starve_in_turn table m skip (j ∷ js) (r ∷ rs) (e ∷ es) address told ended starve = (
  starves_so table m skip j e r address.0 told.0 ended.0 starve.0,
  starve_in_turn table (map_after e.reply e.task m) skip js rs es address.1 told.1 ended.1
      (subst (λ l. MayStarveInTurn table l skip js rs) left starve.1),
)
  where
    left : left_by j.asked.batch m (outcome r.reply) ≡ map_after e.reply e.task m
    left = left_same j.asked.batch m (outcome r.reply) ∙ ap (λ o. map_after o j.asked.batch m) ended.0.reply
        ∙ ap (λ c. map_after e.reply c m) (same_task j e r told.0 ended.0)

-- ---- both

pub starves_rightly : (p : Halves) (w : World) (skip : List SkipId) (ds : List Delivered) (js : List Job)
    (rs : List run.Ended) (new : StoreState) → ShowsRun p.back.store.table w p.front.router rs new →
    w.layer ≡ Taken ds → AreJobs w.asked ds js → AddressTheirGroups p.back.store.table js → AllZip IsOf js rs →
    MayStarveInTurn p.back.store.table w.contents skip js rs → StarvesRightly p skip (starved_of rs) w
starves_rightly p w skip ds js rs new run is_taken are address told starve = record {
  named = λ l is d there skipped.
      let same : l ≡ ds = ap taken_in (sym is ∙ is_taken) in
      let it = named_starve p.back.store.table w.contents skip w.asked ds js rs run.es are told run.ended starve d (subst (In d) same there)
      skipped in
      subst (λ i. names_whole (starved_of rs) i ≡ true) it.id_is
      (subst (λ names. names_whole names it.ended.id ≡ true) (sym run.starved)
      (whole_in (starved_among run.es) it.ended.id (whole_starved run.es it.ended it.there it.none)));
  requests = run.runs.layer;
  taken = run.runs.there;
  outcomes = run.runs.outcomes;
  ran = run.runs.in_turn;
  so = subst (λ l. StarveInTurn p.back.store.table skip w.contents l) (ap (λ (v : World). run_in v.layer) run.runs.after)
      (starve_in_turn p.back.store.table w.contents skip js rs run.es address told run.ended starve);
}
