use Rattle.resp.specs.Content.{content}
use Rattle.replay.proofs.Members.{run_so}
use Rattle.replay.proofs.running.run_members.Goals as goal

pub returns-then-is_told_by : goal.returns-then-is_told_by
returns-then-is_told_by g c =
    run_so c.args.skip.now c.args.members c.args.solo.now c.run_batch-reply.new.self (content c.run_batch-reply.result)
    c.run_batch-reply.ensures (c.is_told_by.ensures c.if-is_told_by.true)
