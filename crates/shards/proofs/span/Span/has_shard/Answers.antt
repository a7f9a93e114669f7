use Rattle.std.proofs.Common.{sym, ap, ◌∙◌}
use Rattle.shards.specs.Joined.{numbers}
use Rattle.shards.proofs.Unions.{found-has}
use Rattle.shards.proofs.span.Span.has_shard.Goals as goal

pub returns : goal.returns
returns g c =
    c.is_some.ensures
    ∙ found-has c.args.self.now g.F.SpanFrame.groups c.args.number c.index_of_shard.result
    (ap numbers (sym c.self.view_is) ∙ c.self.invariant.1.numbers) c.index_of_shard.ensures
