use Rattle.std.proofs.Common.{refl}
use Rattle.layer_planner.proofs.Gathering.{few_stand}
use Rattle.layer_planner.proofs.seen.stand_together.Goals as goal

pub returns-then-jobs-le1 : goal.returns-then-jobs-le1
returns-then-jobs-le1 c = ((λ _. few_stand c.args.jobs.now c.if-jobs-le1.true), (λ _. refl))
