use Rattle.std.proofs.Common.{◌≡◌, ◌++◌, sym, ap, ◌∙◌, length}
use Rattle.std.specs.VecDeque.Iter.{deque_iter_rest}
use Rattle.delivery.specs.Runs.{run}
use Rattle.delivery.proofs.LinedUp.{run_more}
use Rattle.delivery.proofs.queue.Queue.append_run.Goals as goal

pub loop-request-preserved : goal.loop-request-preserved
loop-request-preserved c =
    let one : length c.in-Some.request.now.groups ≡ 1 = sym c.len.ensures.count ∙ c.if-len-ne1.false in
    ap (λ l. l ++ run (deque_iter_rest c.next.new.self)) c.in_ok-push.ensures.items
    ∙ run_more c.loop-request.requests.items (deque_iter_rest c.loop-request.request-iterator) (deque_iter_rest c.next.new.self)
    (c.args.requests.now.items ++ run c.args.self.now.requests) c.in-Some.request.now c.in-Some.ensures.steps one c.loop-request.invariant
