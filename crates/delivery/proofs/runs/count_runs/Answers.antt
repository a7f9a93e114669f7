use Rattle.std.proofs.Common.{◌≡◌, ◌+◌, ◌-◌, ◌^◌, ◌≤◌, [], List, drop, length, min, arith, subst}
use Rattle.std.proofs.Math.ListN.{drop_of_length-le}
use Rattle.skeen_core.specs.declared.packet.Delivered.{Delivered}
use Rattle.delivery.specs.Queues.{queue_of, requests_of}
use Rattle.delivery.specs.Runs.{runs_of}
use Rattle.delivery.proofs.runs.count_runs.Goals as goal

pub returns : goal.returns
returns c =
    let q = queue_of (requests_of c.args.queues.now) in
    let ds = c.args.heads.now in
    let past : length ds ≤ c.loop-head.head-index = omega arith in
    let none : drop c.loop-head.head-index ds ≡ [] = drop_of_length-le ds past in
    let rest : min (c.loop-head.count + length (runs_of q [])) (2 ^ 64 - 1) ≡ min (length (runs_of q ds)) (2 ^ 64 - 1) =
    subst (λ (l : List Delivered). min (c.loop-head.count + length (runs_of q l)) (2 ^ 64 - 1) ≡ min (length (runs_of q ds)) (2 ^ 64 - 1))
    none c.loop-head.invariant.rest in
    let small = c.loop-head.invariant.small in
    omega arith
