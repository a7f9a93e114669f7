use Rattle.std.proofs.Common.{ap, ◌∙◌}
use Rattle.std.specs.FinMap.{insert}
use Rattle.dumps.proofs.Orders.{map_of_lent-insert}
use Rattle.dumps.proofs.dump.Dump.add.Goals as goal

pub returns-clause-ok : goal.returns-clause-ok
returns-clause-ok c =
    map_of_lent-insert c.self.inside.entries.entries c.insert.new.self.entries c.args.key c.args.value
    c.insert.ensures.was_ordered c.insert.ensures.ordered c.in-Ok.ensures.entries
    ∙ ap (λ m. insert m c.args.key.now c.args.value.now) c.self.view_is
