use Rattle.std.proofs.Common.{rules, ◌≡◌, length, sym, subst}
use Rattle.std.specs.List.{AllZip}
use Rattle.front.proofs.Half.{next_outcome, next_may, next_did, half_starts, half_ends}
use Rattle.std.proofs.lemmas.List.{nil_from_length}
use Rattle.front.specs.Settling.{IsToldBy}
use Rattle.front.proofs.outcomes.hand_rows.Goals as goal

pub loop-row-init : goal.loop-row-init
loop-row-init c = λ t w done es standing told settling.
    half_starts t w done es standing c.into_iter-row-iterator.result.rest.items c.args.router.now
    (subst (λ l. AllZip IsToldBy es l) (sym c.into_iter-row-iterator.ensures.into_iter_gives.0) told) settling

pub settle-requires : goal.settle-requires
settle-requires c =
    let q = c.requires in
    let x = c.in-Some.row in
    let ys = c.next.new.self.rest.items in
    let r = c.loop-row.router in
    let half = c.loop-row.invariant q.table q.world q.done q.es q.standing q.told q.settling in
    let next = next_outcome q.table q.world q.done q.es q.standing _ ys x r half c.in-Some.ensures.steps.0 in
    next_may q.table q.world q.done q.es q.standing x ys r half.front next c.outcome_of-outcome.result c.outcome_of-outcome.ensures

pub loop-row-preserved : goal.loop-row-preserved
loop-row-preserved c = λ t w done es standing told settling.
    let x = c.in-Some.row in
    let ys = c.next.new.self.rest.items in
    let r = c.loop-row.router in
    let half = c.loop-row.invariant t w done es standing told settling in
    let next = next_outcome t w done es standing _ ys x r half c.in-Some.ensures.steps.0 in
    next_did t w done es standing x ys r c.settle.new.self half.front next c.outcome_of-outcome.result c.stamp_of-clock.result
    c.outcome_of-outcome.ensures c.stamp_of-clock.ensures c.settle.ensures

pub returns : goal.returns
returns c = λ t w done es standing told settling.
    let none : length c.loop-row.row-iterator.rest.items ≡ 0 = search rules in
    half_ends t w done es standing c.loop-row.row-iterator.rest.items c.loop-row.router
    (nil_from_length c.loop-row.row-iterator.rest.items none) (c.loop-row.invariant t w done es standing told settling)
