use Rattle.shards.specs.Joined.{numbers}
use Rattle.shard_workers.proofs.placed_job.PlacedJob.run_over.Given as goal

-- the shards that the request has, placed by its table
abbrev pub ghosts-run_on_all : goal.ghosts-run_on_all
ghosts-run_on_all g a = record { layout = a.table.now; groups = numbers a.shards.items }
