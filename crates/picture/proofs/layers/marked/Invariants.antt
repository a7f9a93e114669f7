use Rattle.std.proofs.Common.{◌≡◌, map, take}
use Rattle.picture.specs.Layers.{job_in, marked}
use Rattle.picture.proofs.layers.marked.Given as goal

abbrev pub invariant-loop-job : goal.invariant-loop-job
invariant-loop-job l = map job_in l.told.items ≡ map (λ j. marked l.starved (job_in j)) (take l.job-index l.jobs)
