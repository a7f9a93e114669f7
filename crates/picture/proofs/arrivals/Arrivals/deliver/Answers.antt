use Rattle.std.proofs.Common.{◌∙◌, ◌≤◌, ◌++◌, drop, map, subst, sym}
use Rattle.picture.specs.Arrivals.{delivery_in, delivery_of}
use Rattle.picture.proofs.Putting.{put_all, put_next}
use Rattle.system.specs.Reads.{queues_of}
use Rattle.picture.proofs.arrivals.Arrivals.deliver.Goals as goal

pub loop-place-preserved : goal.loop-place-preserved
loop-place-preserved c =
    let queue = queues_of c.args.system.now c.args.group in
    let now = map delivery_in c.loop-place.self.deliveries.items in
    let next = map delivery_in c.push.new.self.deliveries.items in
    let all = map delivery_in c.args.self.now.deliveries.items ++ map (delivery_of c.args.step c.args.group) (drop c.args.from queue) in (
      c.in_ok-push.ensures.receipts ∙ c.loop-place.invariant.0,
      put_next (delivery_of c.args.step c.args.group) queue c.loop-place.place c.in-Some.request.now now next all (sym c.in-Some.ensures)
          c.loop-place.invariant.1 c.in_ok-push.ensures.deliveries,
    )

pub returns-clause-deliveries : goal.returns-clause-deliveries
returns-clause-deliveries c =
    let queue = queues_of c.args.system.now c.args.group in
    put_all (delivery_of c.args.step c.args.group) queue c.loop-place.place (map delivery_in c.loop-place.self.deliveries.items)
    (map delivery_in c.args.self.now.deliveries.items ++ map (delivery_of c.args.step c.args.group) (drop c.args.from queue))
    (subst (λ k. k ≤ c.loop-place.place) c.queued-place-end.ensures c.loop-place-test.false) c.loop-place.invariant.1
