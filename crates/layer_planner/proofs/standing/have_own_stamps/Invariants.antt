use Rattle.std.proofs.Common.{take}
use Rattle.layer_planner.specs.Layers.{HaveOwnStamps}
use Rattle.layer_planner.proofs.standing.have_own_stamps.Given as goal

abbrev pub invariant-loop-job : goal.invariant-loop-job
invariant-loop-job l = HaveOwnStamps (take l.job-index l.jobs)
