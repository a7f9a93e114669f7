use Rattle.std.proofs.Common.{sym, ◌∙◌}
use Rattle.shards.proofs.Unions.{Spot, get_here}
use Rattle.shards.proofs.span.SpanKeyspace.look.Given.{Over}
use Rattle.shards.proofs.span.SpanKeyspace.look.Goals as goal

spot : (g : Over) (c : goal.After-look g)
    → Spot g.F.SpanFrame.layout g.F.SpanFrame.groups c.self.inside.shards.items c.args.self.now c.index_of-index.result c.index.result.now
    c.args.key.now
spot g c = record {
  shown = c.self.view_is;
  span = c.self.invariant.1;
  below = c.index_of-index.ensures.inside;
  there = c.index_of-index.ensures.there;
  at = c.index.ensures;
}

pub returns : goal.returns
returns g c = c.look.ensures ∙ sym (get_here (spot g c))
