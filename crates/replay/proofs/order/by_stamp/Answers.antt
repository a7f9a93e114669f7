use Rattle.std.proofs.Common.{◌≡◌, suc, ◌+◌, ◌-◌, length, slice_get, Some, arith, sym, ap, ◌∙◌}
use Rattle.dumps.proofs.Orders.{past-none}
use Rattle.replay.proofs.Sorting.{none_placed, none_before, one_more_placed, one_more_before}
use Rattle.replay.specs.Order.{Key}
use Rattle.replay.proofs.order.by_stamp.Goals as goal

pub loop-done-init : goal.loop-done-init
loop-done-init c =
    let count : c.len-count.result - 0 ≡ length c.args.rows.now.rows = let e = c.len-count.ensures in omega arith in (
      λ executed are. none_placed executed c.args.rows.now.rows c.new-order.result.keys _ c.new-order.ensures.empty count are,
      none_before _ c.new-order.result.keys c.new-order.ensures.empty,
    )

pub unreachable-requires : goal.unreachable-requires
unreachable-requires c =
    let past = past-none c.args.rows.now.rows (c.len-count.result - 1 - c.loop-done.done) (sym c.row.ensures ∙ c.in_default.is) in
    let count = c.len-count.ensures in
    let more = c.loop-done-test.true in
    omega arith

pub loop-done-preserved : goal.loop-done-preserved
loop-done-preserved c =
    let next = c.len-count.result - (c.loop-done.done + 1) in
    let now = c.len-count.result - c.loop-done.done in
    let more = c.loop-done-test.true in
    let step : now ≡ suc next = omega arith in
    let place : c.len-count.result - 1 - c.loop-done.done ≡ next = omega arith in
    let x : Key = (c.stamp-stamp.result.now.clock, c.number.result, c.len-count.result - 1 - c.loop-done.done) in
    let there : slice_get c.args.rows.now.rows next ≡ Some c.in-Some.row =
    ap (slice_get c.args.rows.now.rows) (sym place) ∙ sym c.row.ensures ∙ c.in-Some.is in
    let stamp = c.stamp-stamp.ensures in
    let key : x ≡ (c.in-Some.row.stamp.clock, c.in-Some.row.stamp.group, next) =
    λ i. (ap (λ s. s.clock) stamp i, (c.number.ensures.same ∙ ap (λ s. s.group) stamp) i, place i) in (
      λ executed are. one_more_placed executed c.args.rows.now.rows c.in-Some.row x c.loop-done.order.keys c.insert.new.self.keys
          next now step key there c.in-Ok.ensures.keys c.loop-done.invariant.1 are (c.loop-done.invariant.0 executed are),
      one_more_before x c.loop-done.order.keys c.insert.new.self.keys next now step place c.in-Ok.ensures.keys c.loop-done.invariant.1,
    )
