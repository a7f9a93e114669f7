-- A layer that was handed out and run by a store.
use Rattle.std.proofs.Common.{◌≡◌, ℕ, List, [], ◌∷◌, ◌++◌, length, Ok, sym, ap, ◌∙◌, subst}
use Rattle.std.specs.List.{AllZip}
use Rattle.layer_planner.specs.declared.job.Job.{Job}
use Rattle.layer_results.specs.declared.done.DoneRow.{DoneRow}
use Rattle.cluster.specs.Sealed.{TakenView, IsTaken, IsRan, IsRowOf}
use Rattle.serial_store.specs.Runs.{IsOfJob}
use Rattle.placement.specs.Layout.{Layout}
use Rattle.skeen_core.specs.declared.packet.Delivered.{Delivered}
use Rattle.order_laws.specs.Takes.{HandsOut}
use Rattle.front.specs.Layers.{AreJobs}
use Rattle.tasks.specs.Tasks.{task_reading}
use Rattle.world_laws.specs.Good.{Asked}

rows_of_jobs : (asked : Asked) (ds : List Delivered) (js : List Job) (done : List DoneRow) → AreJobs asked ds js → AllZip IsOfJob js done →
    AllZip (IsRowOf asked) ds done
rows_of_jobs asked [] [] [] jobs rows = tt
rows_of_jobs asked [] (j ∷ js) done jobs rows = absurd jobs
rows_of_jobs asked (d ∷ ds) [] done jobs rows = absurd jobs
rows_of_jobs asked (d ∷ ds) (j ∷ js) (row ∷ done) jobs rows =
    let so = jobs.0.asked_so in (
      record {
        id = rows.0.id ∙ jobs.0.id;
        stamp = rows.0.stamp ∙ jobs.0.stamp;
        says = (so.0, so.1, ap task_reading rows.0.words ∙ j.asked.says ∙ ap Ok (sym so.2));
      },
      rows_of_jobs asked ds js done jobs.1 rows.1,
    )
rows_of_jobs asked ds js done jobs rows = absurd rows

-- it is what came of that layer, and the last that the store has run
pub is_ran : (t : Layout) (v : TakenView) (done : List DoneRow) (number : ℕ) (ran before : List (List DoneRow)) → IsTaken t v →
    AllZip IsOfJob v.layer done → number ≡ v.number → ran ≡ before ++ done ∷ [] → number ≡ length before →
    IsRan t (record { done = done; number = number; told = v.told; ran = ran })
is_ran t v done number ran before is rows same last counted = record {
  world = is.world;
  leads = is.leads;
  layer = is.layer;
  hands_out = subst (λ n. HandsOut t v.told n is.layer) (sym same) is.hands_out;
  rows = rows_of_jobs is.world.asked is.layer v.layer done is.jobs rows;
  before = before;
  last = last;
  counted = counted;
}
