use Rattle.std.proofs.Common.{◌∙◌, ap, map}
use Rattle.picture.proofs.Putting.{map-map, map_more}
use Rattle.picture.specs.Layers.{job_in, marked}
use Rattle.picture_shapes.specs.declared.facts.JobFacts.{JobFacts}
use Rattle.std.proofs.Common.{length, ◌≤◌, arith}
use Rattle.std.proofs.lemmas.List.{take_all}
use Rattle.picture.proofs.layers.marked.Goals as goal

pub loop-job-preserved : goal.loop-job-preserved
loop-job-preserved c =
    let job = c.job-item.result in
    let starved = c.args.starved.now in
    let put : JobFacts = record { asked = job.asked; stamp = job.stamp; groups = job.groups; starved = c.is_whole_among.result } in
    ap (map job_in) c.in_ok-push.ensures.items
    ∙ map_more job_in (λ j. marked starved (job_in j)) c.args.jobs.now c.loop-job.job-index job c.loop-job.told.items put
    c.loop-job-test.true c.job-item.is c.loop-job.invariant
    (λ i. record { id = job.asked.id; stamp = job.stamp; groups = job.groups; starved = c.is_whole_among.ensures i })

pub returns : goal.returns
returns c =
    let jobs = c.args.jobs.now in
    let far : length jobs ≤ c.loop-job.job-index = (let past = c.loop-job-test.false in omega arith) in
    c.loop-job.invariant ∙ ap (map (λ j. marked c.args.starved.now (job_in j))) (take_all c.loop-job.job-index jobs far)
    ∙ map-map (marked c.args.starved.now) job_in jobs
