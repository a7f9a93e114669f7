use Rattle.std.proofs.Common.{Some, refl, sym, ap, ◌∙◌}
use Rattle.std.specs.Option.{option_copied_mut}
use Rattle.command_cases.proofs.Changed.{lent}
use Rattle.shards.proofs.Lent.{spot_inside}
use Rattle.shards.proofs.Unions.{Spot, get_here, changed_span, changed_union, kept_union}
use Rattle.shards.proofs.span.SpanKeyspace.look_mut.Goals as goal

pub invariant_of-self-lent : goal.invariant_of-self-lent
invariant_of-self-lent g c =
    let spot : Spot g.F.SpanFrame.layout g.F.SpanFrame.groups c.self.inside.shards.items c.args.self.now c.index_of-index.result
    c.index_mut-shard.result.now c.args.key.now =
    spot_inside c.self.view_is c.self.invariant.1 c.index_of-index.ensures.inside c.index_of-index.ensures.there
    c.index_mut-shard.ensures.value in
    λ w. (c.self.invariant.0, changed_span spot (c.look_mut.follows.lender w) (Some w) (lent c.in-Some.is (c.look_mut.follows.holds w)))

pub returns-in-Some : goal.returns-in-Some
returns-in-Some g c =
    let spot : Spot g.F.SpanFrame.layout g.F.SpanFrame.groups c.self.inside.shards.items c.args.self.now c.index_of-index.result
    c.index_mut-shard.result.now c.args.key.now =
    spot_inside c.self.view_is c.self.invariant.1 c.index_of-index.ensures.inside c.index_of-index.ensures.there
    c.index_mut-shard.ensures.value in
    let value = ap option_copied_mut (sym c.in-Some.is) ∙ c.look_mut.ensures.value ∙ sym (get_here spot) in (
      (
        refl,
        (λ w. changed_union spot (c.look_mut.follows.lender w) (Some w) (lent c.in-Some.is (c.look_mut.follows.holds w))),
        refl,
      ),
      record { writes_back = tt; value = value },
    )

pub returns-in-None : goal.returns-in-None
returns-in-None g c =
    let spot : Spot g.F.SpanFrame.layout g.F.SpanFrame.groups c.self.inside.shards.items c.args.self.now c.index_of-index.result
    c.index_mut-shard.result.now c.args.key.now =
    spot_inside c.self.view_is c.self.invariant.1 c.index_of-index.ensures.inside c.index_of-index.ensures.there
    c.index_mut-shard.ensures.value in
    let value = ap option_copied_mut (sym c.in-None.is) ∙ c.look_mut.ensures.value ∙ sym (get_here spot) in (
      (refl, (λ w. tt), kept_union spot c.look_mut.follows.lender-at-none c.look_mut.follows.holds-at-none),
      record { writes_back = tt; value = value },
    )
