use Rattle.std.proofs.Common.{◌<◌, ◌^◌}
use Rattle.picture_shapes.proofs.layers.draw_jobs.Given as goal

abbrev pub invariant-loop-job : goal.invariant-loop-job
invariant-loop-job l = l.left < 2 ^ 40
