use Rattle.std.proofs.Common.{drop, ◌↔◌}
use Rattle.layer_planner.specs.Layers.{StandTogether}
use Rattle.layer_planner.proofs.Gathering.{Left}
use Rattle.layer_planner.proofs.seen.many_stand_together.Given as goal

-- all that is asked of the jobs is left to be asked of those that follow
abbrev pub invariant-loop-job : goal.invariant-loop-job
invariant-loop-job l = StandTogether l.jobs ↔ Left l.seen (drop l.job-index l.jobs)
