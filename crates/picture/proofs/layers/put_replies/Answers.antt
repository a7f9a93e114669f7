use Rattle.std.proofs.Common.{◌∙◌, ◌++◌, ◌∷◌, [], ap, sym, map, take, append_assoc}
use Rattle.std.specs.Prelude.{is_some}
use Rattle.groups.specs.declared.request.RequestId.{RequestId}
use Rattle.picture.proofs.Putting.{filter_more}
use Rattle.picture.specs.Layers.{reply_at, reply_in}
use Rattle.picture.specs.Notes.{ids_in, replies_noted}
use Rattle.picture_shapes.specs.declared.facts.JobFacts.{JobFacts}
use Rattle.system.specs.Reads.{waiting_for}
use Rattle.picture.proofs.layers.put_replies.Goals as goal

pub loop-job-preserved : goal.loop-job-preserved
loop-job-preserved c =
    let s = c.args.system.now in
    let n = c.args.step in
    let old = map reply_in c.args.replies.now.items in
    let i = c.loop-job.job-index in
    let jobs = c.args.jobs.now in
    let job = c.job-item.result in
    let put = replies_noted n s (ids_in (take i jobs)) in
    let one = replies_noted n s (job.asked.id ∷ []) in
    c.in_ok-put_reply.ensures ∙ ap (λ l. l ++ one) c.loop-job.invariant ∙ append_assoc old put one
    ∙ ap (λ l. old ++ l)
    (sym
    (filter_more (reply_at n) (λ (j : JobFacts). j.asked.id) (λ (id : RequestId). is_some (waiting_for s id.conn.0)) jobs i job
    c.loop-job-test.true c.job-item.is))
