-- A layer whose turn had come: what is told of it, and the count of those that were run.
use Rattle.std.proofs.Common.{◌≡◌, ℕ, ◌+◌, List, [], ◌∷◌, ◌++◌, length, length-append, sym, ap, ◌∙◌, subst}
use Rattle.std.specs.List.{AllZip}
use Rattle.groups.specs.declared.skip_id.SkipId.{SkipId}
use Rattle.layer_planner.specs.declared.job.Job.{Job}
use Rattle.layer_results.specs.declared.done.DoneRow.{DoneRow}
use Rattle.serial_store.proofs.Came.{of_jobs}
use Rattle.serial_store.specs.Runs.{RunsLayer, IsOfJob, HasRun}
use Rattle.serial_store.specs.Stores.{SerialState, state_of}
use Rattle.shard_exec.specs.StoreStates.{StoreState}

pub one_more : (number : ℕ) (runs after : List (List DoneRow)) (done : List DoneRow) → number ≡ length runs → after ≡ runs ++ done ∷ []
    → number + 1 ≡ length after
one_more number runs after done turn more =
    ap (λ n. n + 1) turn ∙ sym (ap (λ (l : List (List DoneRow)). length l) more ∙ length-append runs (done ∷ []))

pub was_run : (old : SerialState) (store new : StoreState) (runs after : List (List DoneRow)) (number : ℕ) (skip : List SkipId)
    (layer : List Job) (done : List DoneRow) → state_of store runs ≡ old → number ≡ length runs → RunsLayer store skip layer done new
    → after ≡ runs ++ done ∷ [] → HasRun old number skip layer done (state_of new after)
was_run old store new runs after number skip layer done is turn ran more =
    subst (λ (s : SerialState). HasRun s number skip layer done (state_of new after)) is
    (record {
      turn = turn;
      ran = ran;
      rows = subst (AllZip IsOfJob layer) (sym ran.done) (of_jobs layer ran.ended ran.ran.done.told);
      runs = more;
    })
