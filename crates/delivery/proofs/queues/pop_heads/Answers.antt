use Rattle.std.proofs.Common.{◌<◌, ◌≤◌, length, drop, slice_index_or, ap, sym, ◌∙◌, subst}
use Rattle.delivery.proofs.HeadsGone.{gone_more, gone_place}
use Rattle.delivery.proofs.queues.pop_heads.Goals as goal

pub loop-group-preserved : goal.loop-group-preserved
loop-group-preserved c =
    let at = c.from.ensures ∙ c.number.ensures.same in
    let low = gone_place c.args.queues.now c.loop-group.queues c.args.groups c.loop-group.group-iterator c.next.new.self c.in-Some.group
    c.loop-group.invariant c.in-Some.ensures.steps c.requires in
    let kept : (slice_index_or c.loop-group.queues c.from.result c.index-queues-from.result).room ≤ c.pop.new.self.room =
    c.pop.ensures.room in
    gone_more c.args.queues.now c.loop-group.queues c.args.groups c.loop-group.group-iterator c.next.new.self c.from.result
    c.index-queues-from.result c.pop.new.self
    c.loop-group.invariant (rw at c.in-Some.ensures.steps)
    (record {
      low = subst (λ n. n < length c.loop-group.queues) (sym at) low;
      was = c.index-queues-from.is;
      now = c.pop.ensures.requests ∙ ap (λ q. drop 1 q.requests) (sym c.index-queues-from.is);
      room = subst (λ q. q.room ≤ c.pop.new.self.room) (sym c.index-queues-from.is) kept;
    })
