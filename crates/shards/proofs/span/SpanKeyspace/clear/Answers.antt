use Rattle.std.proofs.Common.{arith, sym, ap, subst, ◌∙◌}
use Rattle.shards.specs.Joined.{union}
use Rattle.shards.specs.Spans.{IsSpan}
use Rattle.shards.proofs.Unions.{cleared_step, span-cleared, union-cleared}
use Rattle.shards.proofs.span.SpanKeyspace.clear.Goals as goal

pub loop-index-preserved : goal.loop-index-preserved
loop-index-preserved g c = (
  cleared_step c.loop-index.self-inside.shards.items c.self.inside.shards.items c.loop-index.index c.index_mut.result.now c.clear.new.self
      c.loop-index.invariant.0 (omega arith) c.index_mut.ensures.value c.clear.ensures.cleared,
  c.loop-index.invariant.1,
)

pub invariant_of-self : goal.invariant_of-self
invariant_of-self g c = (
  c.loop-index.invariant.1 ∙ c.self.invariant.0,
  subst (IsSpan g.F.SpanFrame.layout g.F.SpanFrame.groups) (sym c.loop-index.invariant.0)
      (span-cleared g.F.SpanFrame.layout g.F.SpanFrame.groups c.loop-index.index c.self.inside.shards.items c.self.invariant.1),
)

pub returns : goal.returns
returns g c = record {
  cleared = ap union c.loop-index.invariant.0 ∙ union-cleared c.self.inside.shards.items c.loop-index.index (omega arith);
}
