use Rattle.cluster.proofs.Effects.{answers_nothing}
use Rattle.cluster.proofs.ordered.History.make_unanswered.Goals as goal

pub unreachable-requires : goal.unreachable-requires
unreachable-requires g c = c.in_default.not-Made (answers_nothing _ _ c.args.step c.in-Ok.effect c.requires c.in-Ok.ensures.made)
