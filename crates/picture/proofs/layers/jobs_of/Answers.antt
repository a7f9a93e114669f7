use Rattle.std.proofs.Common.{◌∙◌, ap, map, false}
use Rattle.picture.proofs.Putting.{map_more}
use Rattle.picture.specs.Layers.{job_in}
use Rattle.picture.specs.Notes.{job_noted}
use Rattle.picture_shapes.specs.declared.facts.JobFacts.{JobFacts}
use Rattle.picture.proofs.layers.jobs_of.Goals as goal

pub loop-job-preserved : goal.loop-job-preserved
loop-job-preserved c =
    let job = c.job-item.result in
    let put : JobFacts = record { asked = c.asked.result; stamp = job.stamp; groups = job.groups; starved = false } in
    ap (map job_in) c.in_ok-push.ensures.items
    ∙ map_more job_in job_noted c.args.layer.now c.loop-job.job-index job c.loop-job.jobs.items put c.loop-job-test.true c.job-item.is
    c.loop-job.invariant (λ i. record { id = c.asked.ensures i; stamp = job.stamp; groups = job.groups; starved = false })
