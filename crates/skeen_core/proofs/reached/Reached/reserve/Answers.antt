use Rattle.std.proofs.Common.{ap, ◌∙◌}
use Rattle.skeen_core.specs.Reached.{ReachedView}
use Rattle.skeen_core.proofs.Numbers.{same_shown}
use Rattle.skeen_core.proofs.reached.Reached.reserve.Goals as goal

pub returns-clause-numbers : goal.returns-clause-numbers
returns-clause-numbers c = same_shown c.self.inside.numbers.entries c.reserve.new.self.entries c.reserve.ensures.entries.2
    ∙ ap (λ (r : ReachedView). r.numbers) c.self.view_is
