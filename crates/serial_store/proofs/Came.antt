-- What came of a layer that a store ran, as the executed requests of that layer.
use Rattle.std.proofs.Common.{◌≡◌, List, [], ◌∷◌, Option, Some, None, Ok, option_map, inl, inr, refl, sym, ap, ◌∙◌, subst}
use Rattle.std.specs.List.{AllZip}
use Rattle.back.proofs.Executed.{with_executed, executed_in}
use Rattle.back.specs.Rows.{done_of, results_of}
use Rattle.tasks.specs.Starved.{starved_in}
use Rattle.execution_order.specs.Entries.{Row}
use Rattle.groups.specs.Order.{In}
use Rattle.layer_planner.specs.declared.job.Job.{Job}
use Rattle.placement.specs.Layout.{Layout}
use Rattle.resp.specs.Content.{content}
use Rattle.resp.specs.declared.answered.Answered.{Answered}
use Rattle.serial_store.specs.Runs.{IsOfJob}
use Rattle.serial_store.specs.Serial.{with_row, rows_in}
use Rattle.shard_exec.specs.Layers.{AddressTheirGroups, IsOf}
use Rattle.shard_exec.specs.declared.done.Ended.{Ended}
use Rattle.tasks.specs.Tasks.{task_reading, task_groups}

-- ---- the rows are those of the executed requests

by_reply : (t : Layout) (j : Job) (e : Ended) → IsOf j e → j.groups ≡ task_groups t j.asked.batch → (rows : List Row)
    → (reply : Option Answered)
    → with_row t (done_of e) (option_map (λ answered. answered.reply) reply) (Ok j.asked.batch) rows ≡ with_executed j reply rows
by_reply t j e of its rows None = refl
by_reply t j e of its rows (Some answered) = λ k. record {
  entry = record {
    id = of.0 k;
    stamp = of.1 k;
    groups = sym its k;
    task = j.asked.batch;
    starved = starved_in j.asked.batch (content answered.reply);
  };
  reply = content answered.reply;
} ∷ rows

pub rows_came : (t : Layout) (js : List Job) (es : List Ended) → AddressTheirGroups t js → AllZip IsOf js es
    → rows_in t (results_of es) ≡ executed_in js es
rows_came t [] [] its told = refl
rows_came t [] (e ∷ es) its told = absurd told
rows_came t (j ∷ js) [] its told = absurd told
rows_came t (j ∷ js) (e ∷ es) its told =
    let row = done_of e in
    ap (λ read. with_row t row row.reply read (rows_in t (results_of es))) (ap task_reading told.0.2 ∙ j.asked.says)
    ∙ ap (with_row t row row.reply (Ok j.asked.batch)) (rows_came t js es its.1 told.1)
    ∙ by_reply t j e told.0 its.0 (executed_in js es) e.reply

-- ---- each is of its job

pub of_jobs : (js : List Job) (es : List Ended) → AllZip IsOf js es → AllZip IsOfJob js (results_of es)
of_jobs [] [] told = tt
of_jobs [] (e ∷ es) told = absurd told
of_jobs (j ∷ js) [] told = absurd told
of_jobs (j ∷ js) (e ∷ es) told = (record { id = told.0.0; stamp = told.0.1; words = told.0.2 }, of_jobs js es told.1)

-- ---- the reply tells which members starved

abbrev TellsStarved : Row → Type 0
TellsStarved row = row.entry.starved ≡ starved_in row.entry.task row.reply

one_tells : (j : Job) (row : Row) (rows : List Row) → (In row rows → TellsStarved row) → (reply : Option Answered)
    → In row (with_executed j reply rows) → TellsStarved row
one_tells j row rows rest None there = rest there
one_tells j row rows rest (Some answered) (inl same) = subst TellsStarved (sym same) refl
one_tells j row rows rest (Some answered) (inr there) = rest there

pub starved_told : (js : List Job) (es : List Ended) (row : Row) → In row (executed_in js es) → TellsStarved row
starved_told [] es row there = absurd there
starved_told (j ∷ js) [] row there = absurd there
starved_told (j ∷ js) (e ∷ es) row there = one_tells j row (executed_in js es) (starved_told js es row) e.reply there
