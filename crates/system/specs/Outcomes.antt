-- What came of a layer that was run, and how many names may come of it.
use Rattle.std.specs.Prelude.{◌≡◌, ℕ, ◌+◌, List, length, map, sum}
use Rattle.back.specs.Rows.{results_of}
use Rattle.layer_planner.specs.declared.job.Job.{Job}
use Rattle.layer_results.specs.declared.done.DoneRow.{DoneRow}
use Rattle.sessions.specs.declared.batch.Batch.TheVariants.{Plain, Exec}
use Rattle.shard_exec.specs.declared.done.Ended as run
use Rattle.front.specs.Layers.{AreEnded}
use Rattle.tasks.specs.Tasks.{Task}
use Rattle.world.specs.World.{Ended}

-- this is what the store told of these requests, in their order
pub record IsWhatCameOf (es : List Ended) (done : List DoneRow) : Type 0 where
  pub told : List run.Ended
  pub are : AreEnded es told
  pub same : done ≡ results_of told

-- how many names of what starves may come of a request at most: its own, and those of its members
abbrev pub most_names : Task → ℕ
most_names (Plain command) = 1
most_names (Exec members) = length members + 1

abbrev pub most_of : List Job → ℕ
most_of jobs = sum (map (λ j. most_names j.asked.batch) jobs)
