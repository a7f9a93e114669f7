use Rattle.std.proofs.Common.{sym, ◌∙◌}
use Rattle.shared_cluster.proofs.Hands.{advances_free, advances_taken, advances_run}
use Rattle.shared_cluster.proofs.shared.Shared.advance.Goals as goal

pub returns-in-HasRun-clause-made : goal.returns-in-HasRun-clause-made
returns-in-HasRun-clause-made g c =
    advances_run _ _ _ c.args.hand.now c.replace.new.dest c.settle.new.hand c.in-HasRun.ran c.settle.result
    (sym c.replace.ensures.value ∙ c.in-HasRun.is) c.replace.ensures.after c.settle.ensures.made

pub returns-in-Taken-clause-made : goal.returns-in-Taken-clause-made
returns-in-Taken-clause-made g c =
    advances_taken _ _ _ c.args.hand.now c.run.new.hand c.in-Taken.layer c.run.result
    (sym c.replace.ensures.value ∙ c.in-Taken.is) c.run.ensures.made

pub returns-in-Free-clause-made : goal.returns-in-Free-clause-made
returns-in-Free-clause-made g c =
    advances_free _ _ _ c.args.hand.now c.replace.new.dest c.begin.new.hand c.begin.result
    (sym c.replace.ensures.value ∙ c.in-Free.is) c.replace.ensures.after c.begin.ensures.made
