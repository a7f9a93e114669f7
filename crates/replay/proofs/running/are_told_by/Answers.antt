use Rattle.replay.proofs.Members.{told_more}
use Rattle.replay.proofs.running.are_told_by.Goals as goal

pub loop-place-init : goal.loop-place-init
loop-place-init c = λ told. told

pub loop-place-preserved : goal.loop-place-preserved
loop-place-preserved c = λ behind.
    c.loop-place.invariant
    (told_more c.args.skip.now c.args.replies.now c.loop-place.place c.index-replies-place.result c.loop-place-test.true
    c.index-replies-place.is (c.may_say.ensures c.if-not-may_say.false) behind)
