use Rattle.std.proofs.Common.{◌-◌, arith, sym, ap, ◌∙◌}
use Rattle.layer_planner.specs.declared.job.Job.{Job}
use Rattle.shard_exec.specs.Weights.{members_of_batch}
use Rattle.shard_exec.proofs.OneMore.{one_below}
use Rattle.shard_exec.proofs.weighing.are_heavy.Goals as goal

pub returns-then-missing-eq0-clause-heavy : goal.returns-then-missing-eq0-clause-heavy
returns-then-missing-eq0-clause-heavy c =
    let below = one_below (λ (j : Job). members_of_batch c.args.table.now c.args.row.now j.asked.batch) c.args.jobs.now
    c.loop-job.job-index c.job-item.result c.loop-job-test.true (sym c.job-item.is) in
    let missing = c.behind_batch-missing.ensures
    ∙ ap (λ b. c.loop-job.missing - members_of_batch c.args.table.now c.args.row.now b) c.batch.ensures in
    omega (arith, below, missing, c.loop-job.invariant.0, c.if-missing-eq0.true)
