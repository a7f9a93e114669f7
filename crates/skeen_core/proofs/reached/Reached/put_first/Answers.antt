use Rattle.std.proofs.Common.{ap, ◌∙◌}
use Rattle.std.specs.FinMap.{insert}
use Rattle.skeen_core.specs.Reached.{ReachedView}
use Rattle.skeen_core.proofs.Numbers.{put_shown}
use Rattle.skeen_core.proofs.reached.Reached.put_first.Goals as goal

pub returns-clause-numbers : goal.returns-clause-numbers
returns-clause-numbers c =
    let conn = c.args.id.conn.0 in
    put_shown c.self.inside.numbers.entries c.insert.new.self.entries conn c.args.id.seq c.in-Ok.ensures.updates.0
    ∙ ap (λ (r : ReachedView). insert r.numbers conn c.args.id.seq) c.self.view_is
