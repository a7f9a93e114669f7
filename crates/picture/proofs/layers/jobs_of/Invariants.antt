use Rattle.std.proofs.Common.{◌≡◌, map, take}
use Rattle.picture.specs.Layers.{job_in}
use Rattle.picture.specs.Notes.{job_noted}
use Rattle.picture.proofs.layers.jobs_of.Given as goal

abbrev pub invariant-loop-job : goal.invariant-loop-job
invariant-loop-job l = map job_in l.jobs.items ≡ map job_noted (take l.job-index l.layer)
