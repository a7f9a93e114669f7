use Rattle.std.proofs.Common.{◌≡◌, ◌+◌, ◌∷◌, suc, drop, sym, ap, ◌∙◌, subst, arith}
use Rattle.std.proofs.Math.Seq.{drop-cons}
use Rattle.layer_planner.specs.declared.job.Job.{Job}
use Rattle.layer_planner.proofs.Gathering.{Left, left_more}
use Rattle.layer_planner.proofs.seen.many_stand_together.Goals as goal

pub loop-job-init : goal.loop-job-init
loop-job-init c = (
  (λ stand. record { join = λ j i. c.nothing-seen.ensures j.groups j.stamp; stand = stand }),
  (λ left. left.stand),
)

pub loop-job-preserved : goal.loop-job-preserved
loop-job-preserved c =
    let next : suc c.loop-job.job-index ≡ c.loop-job.job-index + 1 = omega arith in
    let step = drop-cons c.args.jobs.now c.loop-job.job-index c.job-item.result c.loop-job-test.true
    ∙ ap (λ (j : Job). j ∷ drop (suc c.loop-job.job-index) c.args.jobs.now) (sym c.job-item.is)
    ∙ ap (λ i. c.job-item.result ∷ drop i c.args.jobs.now) next in
    let more = left_more c.loop-job.seen c.join.new.self c.job-item.result (drop (c.loop-job.job-index + 1) c.args.jobs.now)
    (c.join.ensures.may.0 c.if-not-join.false) (c.join.ensures.joined c.if-not-join.false) in (
      (λ stand. more.0 (subst (Left c.loop-job.seen) step (c.loop-job.invariant.0 stand))),
      (λ left. c.loop-job.invariant.1 (subst (Left c.loop-job.seen) (sym step) (more.1 left))),
    )
