use Rattle.std.proofs.Common.{sym, ap, ◌∙◌}
use Rattle.std.specs.FinMap.{get}
use Rattle.skeen_core.specs.Reached.{ReachedView}
use Rattle.skeen_core.proofs.Numbers.{get_shown}
use Rattle.skeen_core.proofs.reached.Reached.number.Goals as goal

pub returns : goal.returns
returns c = c.copied.ensures ∙ c.get.ensures.value ∙ sym (get_shown c.self.inside.numbers.entries c.args.conn.0)
    ∙ ap (λ (r : ReachedView). get r.numbers c.args.conn.0) c.self.view_is
