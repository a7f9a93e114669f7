use Rattle.std.proofs.Common.{◌≡◌, map, take, sum}
use Rattle.system.specs.Outcomes.{most_names}
use Rattle.system.proofs.outcomes.most_of.Given as goal

-- those of the requests in front are counted
abbrev pub invariant-loop-job : goal.invariant-loop-job
invariant-loop-job l = l.count ≡ sum (map (λ j. most_names j.asked.batch) (take l.job-index l.jobs))
