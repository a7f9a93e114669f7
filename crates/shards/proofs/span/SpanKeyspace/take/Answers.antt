use Rattle.std.proofs.Common.{sym, ◌∙◌, None}
use Rattle.shards.proofs.Unions.{Spot, get_here, changed_span, changed_union}
use Rattle.shards.proofs.span.SpanKeyspace.take.Given.{Over}
use Rattle.shards.proofs.span.SpanKeyspace.take.Goals as goal

spot : (g : Over) (c : goal.After-self-1 g)
    → Spot g.F.SpanFrame.layout g.F.SpanFrame.groups c.self.inside.shards.items c.args.self.now c.index_of-index.result
    c.index_mut.result.now c.args.key.now
spot g c = record {
  shown = c.self.view_is;
  span = c.self.invariant.1;
  below = c.index_of-index.ensures.inside;
  there = c.index_of-index.ensures.there;
  at = c.index_mut.ensures.value;
}

pub invariant_of-self : goal.invariant_of-self
invariant_of-self g c = (c.self.invariant.0, changed_span (spot g c) c.take.new.self None c.take.ensures.removed)

pub returns-clause-before : goal.returns-clause-before
returns-clause-before g c = c.take.ensures.before ∙ sym (get_here (spot g c))

pub returns-clause-removed : goal.returns-clause-removed
returns-clause-removed g c = changed_union (spot g c) c.take.new.self None c.take.ensures.removed
