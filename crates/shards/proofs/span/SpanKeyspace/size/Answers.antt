use Rattle.std.proofs.Common.{arith, ◌≡◌, length, min, pos, take, sym, ap, subst, ◌∙◌}
use Rattle.std.proofs.Math.Seq.{take-length}
use Rattle.std.specs.FinMap.{len}
use Rattle.groups.specs.GroupSet.{IsAscending}
use Rattle.shards.specs.Joined.{union}
use Rattle.shards.proofs.Sizes.{total, total-take, most_added, len-union}
use Rattle.shards.proofs.span.SpanKeyspace.size.Goals as goal

pub loop-shard-preserved : goal.loop-shard-preserved
loop-shard-preserved g c =
    let items = c.deref-shard-items.result.now in let at = c.loop-shard.shard-index in
    most_added _ _ _ (total (take at items)) (len c.loop-shard-item.result.1) c.loop-shard.invariant c.size.ensures
    c.saturating_add-size.ensures
    ∙ ap (λ n. pos (min n 9223372036854775807))
    (sym (total-take items at c.loop-shard-item.result c.loop-shard-test.true c.loop-shard-item.is))

pub returns : goal.returns
returns g c =
    let items = c.deref-shard-items.result.now in
    let all : take c.loop-shard.shard-index items ≡ items = (let end : c.loop-shard.shard-index ≡ length items = omega arith in
    ap (λ k. take k items) end ∙ take-length items) in
    let up = subst IsAscending (sym c.self.invariant.1.numbers) c.self.invariant.1.ascending in
    c.loop-shard.invariant ∙ ap (λ n. pos (min n 9223372036854775807))
    (ap total (all ∙ c.deref-shard-items.ensures.value)
    ∙ sym (len-union g.F.SpanFrame.layout c.self.inside.shards.items c.self.invariant.1.own up) ∙ ap (λ l. len (union l)) c.self.view_is)
