use Rattle.std.proofs.Common.{◌≡◌, ◌++◌}
use Rattle.std.specs.VecDeque.Iter.{deque_iter_rest}
use Rattle.delivery.specs.Runs.{run}
use Rattle.delivery.proofs.queue.Queue.append_run.Given as goal

-- the run of those that are left makes up the rest
abbrev pub invariant-loop-request : goal.invariant-loop-request
invariant-loop-request l = l.requests.items ++ run (deque_iter_rest l.request-iterator) ≡ l.initial.requests.items ++ run l.self.requests
