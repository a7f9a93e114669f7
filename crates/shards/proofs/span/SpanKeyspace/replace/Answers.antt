use Rattle.std.proofs.Common.{subst, ◌∙◌, Some}
use Rattle.std.specs.Option.{IsSome}
use Rattle.shards.proofs.Unions.{Spot, get_here, changed_span, changed_union}
use Rattle.shards.proofs.span.SpanKeyspace.replace.Given.{Over}
use Rattle.shards.proofs.span.SpanKeyspace.replace.Goals as goal

spot : (g : Over) (c : goal.After-replace-arg-1 g)
    → Spot g.F.SpanFrame.layout g.F.SpanFrame.groups c.self.inside.shards.items c.args.self.now c.index_of-index.result
    c.index_mut.result.now c.args.key.now
spot g c = record {
  shown = c.self.view_is;
  span = c.self.invariant.1;
  below = c.index_of-index.ensures.inside;
  there = c.index_of-index.ensures.there;
  at = c.index_mut.ensures.value;
}

spot_after : (g : Over) (c : goal.After-self-1 g)
    → Spot g.F.SpanFrame.layout g.F.SpanFrame.groups c.self.inside.shards.items c.args.self.now c.index_of-index.result
    c.index_mut.result.now c.args.key.now
spot_after g c = record {
  shown = c.self.view_is;
  span = c.self.invariant.1;
  below = c.index_of-index.ensures.inside;
  there = c.index_of-index.ensures.there;
  at = c.index_mut.ensures.value;
}

pub replace-requires-clause-there : goal.replace-requires-clause-there
replace-requires-clause-there g c = subst IsSome (get_here (spot g c)) c.requires.there

pub invariant_of-self : goal.invariant_of-self
invariant_of-self g c = (
  c.self.invariant.0,
  changed_span (spot_after g c) c.replace.new.self (Some c.args.value) c.replace.ensures.replaced,
)

pub returns-clause-before : goal.returns-clause-before
returns-clause-before g c = get_here (spot_after g c) ∙ c.replace.ensures.before

pub returns-clause-replaced : goal.returns-clause-replaced
returns-clause-replaced g c = changed_union (spot_after g c) c.replace.new.self (Some c.args.value) c.replace.ensures.replaced
