use Rattle.std.proofs.Common.{arith, below_more, sym, ap, ◌∙◌, eq-eqb}
use Rattle.std.proofs.lemmas.Bool.{both_ways}
use Rattle.groups.specs.GroupSet.{has}
use Rattle.shards.specs.Joined.{numbers}
use Rattle.shards.proofs.Unions.{has_not, number_at}
use Rattle.shards.proofs.span.Span.index_of_shard.Goals as goal

pub loop-index-preserved : goal.loop-index-preserved
loop-index-preserved g c =
    below_more _ _ c.loop-index.invariant (λ e.
    let at = number_at c.deref-shard-items.result.now c.loop-index.index c.shard-item.result c.loop-index-test.true in
    both_ways _ (sym c.if-eq.ensures) (eq-eqb c.shard-item.result.0 c.args.number (ap (λ s. s.0) c.shard-item.is ∙ at ∙ e)))

pub returns : goal.returns
returns g c =
    let none = has_not c.deref-shard-items.result.now c.args.number (λ k below. c.loop-index.invariant k (omega (arith, below))) in
    ap (λ gs. has gs c.args.number) (sym c.self.invariant.1.numbers ∙ ap numbers (sym c.deref-shard-items.ensures.value)) ∙ none
