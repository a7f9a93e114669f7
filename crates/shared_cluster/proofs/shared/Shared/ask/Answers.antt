use Rattle.std.proofs.lemmas.Result.{IfOk-weaker}
use Rattle.resp.specs.Content.{content}
use Rattle.shared_cluster.proofs.Collecting.{replied_of, waited_fault}
use Rattle.shared_cluster.proofs.shared.Shared.ask.Goals as goal

pub returns-in-Ok-clause-replied : goal.returns-in-Ok-clause-replied
returns-in-Ok-clause-replied g c =
    IfOk-weaker c.wait.result _ _ (λ x. replied_of g.T.Tabled.table c.args.seat.now c.submit.new.seat c.wait.new.seat c.args.words
    (content x.reply) c.in-Ok.ensures.submitted) c.wait.ensures.replied

pub returns-in-Ok-clause-refused : goal.returns-in-Ok-clause-refused
returns-in-Ok-clause-refused g c =
    waited_fault c.args.seat.now c.submit.new.seat c.args.words c.wait.result c.wait.new.seat c.in-Ok.ensures.submitted
    c.wait.ensures.refused c.wait.ensures.unchanged
