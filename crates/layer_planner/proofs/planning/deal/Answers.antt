use Rattle.std.proofs.Common.{◌≡◌, subst, arith}
use Rattle.layer_planner.proofs.PartLaws.{HasPlanned, planned_more}
use Rattle.layer_planner.proofs.planning.deal.Goals as goal

pub loop-first-init : goal.loop-first-init
loop-first-init c = record { is = c.in_ok-parts.ensures.items }

pub loop-first-preserved : goal.loop-first-preserved
loop-first-preserved c = planned_more c.args.units.now c.args.count c.loop-first.first c.in_ok-deal_part.field-0
    c.loop-first.parts.items c.push.new.self.items c.loop-first.invariant c.in_ok-deal_part.ensures c.in_ok-push.ensures.items

pub returns : goal.returns
returns c =
    let most = c.loop-first.auto.first-end in
    let least = c.loop-first-test.false in
    let all : c.loop-first.first ≡ c.args.count = omega (arith, most, least) in
    (subst (λ n. HasPlanned c.args.units.now c.args.count n c.loop-first.parts.items) all c.loop-first.invariant).is
