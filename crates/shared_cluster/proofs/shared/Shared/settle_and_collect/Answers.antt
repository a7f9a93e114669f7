use Rattle.std.proofs.Common.{sym, ◌∙◌}
use Rattle.shared_cluster.proofs.Collecting.{gives_turned, gives_replied, gives_unasked}
use Rattle.shared_cluster.proofs.Hands.{turned_starved}
use Rattle.shared_cluster.proofs.shared.Shared.settle_and_collect.Goals as goal

pub unreachable-requires : goal.unreachable-requires
unreachable-requires g c = c.in_default.not-HasRun c.requires.0 (c.replace.ensures.value ∙ c.requires.1)

pub returns-in-Ok-Starved-clause-turned : goal.returns-in-Ok-Starved-clause-turned
returns-in-Ok-Starved-clause-turned g c =
    turned_starved _ c.args.hand.now c.in-HasRun.ran c.in-Ok-Starved.ran (sym c.replace.ensures.value ∙ c.in-HasRun.is)
    (rw c.in-Ok-Starved.field-0-is at c.in-Ok-Starved.ensures.settled).0

pub returns-in-Ok-Gives-clause-turned : goal.returns-in-Ok-Gives-clause-turned
returns-in-Ok-Gives-clause-turned g c =
    gives_turned g.T.Tabled.table c.in-HasRun.ran c.args.seat.now c.settle_then_collect.new.seat c.in-Ok-Gives.reply c.args.hand.now
    c.replace.new.dest (sym c.replace.ensures.value ∙ c.in-HasRun.is) c.replace.ensures.after
    (rw c.in-Ok-Gives.field-0-is at c.in-Ok-Gives.ensures.settled)

pub returns-in-Ok-Gives-clause-replied : goal.returns-in-Ok-Gives-clause-replied
returns-in-Ok-Gives-clause-replied g c =
    gives_replied g.T.Tabled.table c.in-HasRun.ran c.args.seat.now c.settle_then_collect.new.seat c.in-Ok-Gives.reply
    (rw c.in-Ok-Gives.field-0-is at c.in-Ok-Gives.ensures.settled)

pub returns-in-Ok-Gives-clause-unasked : goal.returns-in-Ok-Gives-clause-unasked
returns-in-Ok-Gives-clause-unasked g c =
    gives_unasked g.T.Tabled.table c.in-HasRun.ran c.args.seat.now c.settle_then_collect.new.seat c.in-Ok-Gives.reply
    (rw c.in-Ok-Gives.field-0-is at c.in-Ok-Gives.ensures.settled)
