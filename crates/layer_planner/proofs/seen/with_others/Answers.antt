use Rattle.std.proofs.Common.{◌∙◌}
use Rattle.layer_planner.proofs.Gathering.{union_more}
use Rattle.layer_planner.proofs.seen.with_others.Goals as goal

pub loop-group-preserved : goal.loop-group-preserved
loop-group-preserved c = λ g. union_more c.loop-group.all c.with-all.result c.loop-group.group-iterator c.next.new.self c.in-Some.group g
    c.with-all.ensures c.in-Some.ensures.steps ∙ c.loop-group.invariant g
