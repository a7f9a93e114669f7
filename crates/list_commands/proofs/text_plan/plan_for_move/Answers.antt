use Rattle.std.proofs.Common.{sym, ◌∙◌}
use Rattle.std.specs.FinMap.{get}
use Rattle.std.specs.Str.{bytes_eq}
use Rattle.command_cases.specs.Shapes.{at_two}
use Rattle.list_commands.specs.ListCommand.{move_step}
use Rattle.list_commands.proofs.Leaves.{move-answers}
use Rattle.list_commands.proofs.Short.{short-move}
use Rattle.list_commands.proofs.text_plan.plan_for_move.Goals as goal

pub returns-then-receives : goal.returns-then-receives
returns-then-receives g c =
    let m = g.K.Keyspace.contents c.args.keyspace.now in
    let from = c.args.from.now in
    let to = c.args.to.now in
    let taken = c.args.taken in
    λ put. c.plan_for_end.ensures (at_two from to (move_step (bytes_eq from to) taken put))
    (move-answers (bytes_eq from to) taken put (get m from) (get m to) (sym c.receives.ensures ∙ c.if-receives.true))

pub returns-else-receives : goal.returns-else-receives
returns-else-receives g c =
    let m = g.K.Keyspace.contents c.args.keyspace.now in
    let from = c.args.from.now in
    let to = c.args.to.now in
    λ put. short-move (bytes_eq from to) c.args.taken put (get m from) (get m to) (sym c.receives.ensures ∙ c.if-receives.false)
