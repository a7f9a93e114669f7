use Rattle.std.proofs.Common.{◌<◌, length, take, arith}
use Rattle.replay.proofs.Making.{none_left, next_none, next_some, fault_at, one_more_made}
use Rattle.replay.specs.Replay.{StandsAt}
use Rattle.system.specs.Reads.{table_of}
use Rattle.replay.proofs.steps.make_all.Goals as goal

pub unreachable-requires : goal.unreachable-requires
unreachable-requires g c =
    let few : c.loop-index.index < length c.args.steps =
    let more = c.loop-index-test.true in let count = c.len-count.ensures in omega arith in
    none_left c.args.steps c.loop-index.steps c.loop-index.index c.loop-index.invariant.0
    (next_none c.in_ok-step.field-0 c.loop-index.steps c.next.new.self c.in_default.is c.in_ok-step.ensures.next) few

pub returns-in-Err-clause-fault : goal.returns-in-Err-clause-fault
returns-in-Err-clause-fault g c =
    fault_at (g.W.Workers.may_refuse c.args.workers.now) (table_of c.args.system.now) c.args.system.now.max_steps c.args.steps
    c.loop-index.steps c.next.new.self c.loop-index.index c.in-Some.step c.loop-index.system c.make.new.system c.in-Err.fault
    c.loop-index.invariant.0
    (next_some c.in_ok-step.field-0 c.loop-index.steps c.next.new.self c.in-Some.step c.in-Some.is c.in_ok-step.ensures.next)
    c.loop-index.invariant.1 c.in-Err.ensures.fault

pub loop-index-preserved : goal.loop-index-preserved
loop-index-preserved g c =
    let t = table_of c.args.system.now in
    let most = c.args.system.now.max_steps in
    one_more_made (λ made. StandsAt t most made c.make.new.system) c.args.steps c.loop-index.steps c.next.new.self c.loop-index.index
    c.in-Some.step
    c.loop-index.invariant.0
    (next_some c.in_ok-step.field-0 c.loop-index.steps c.next.new.self c.in-Some.step c.in-Some.is c.in_ok-step.ensures.next)
    (c.in_default-make.ensures.made t most (take c.loop-index.index c.args.steps) c.loop-index.invariant.1)
