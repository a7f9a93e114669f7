use Rattle.std.proofs.Common.{IsTrue, sym, subst}
use Rattle.std.specs.Result.{OnErr}
use Rattle.command_cases.proofs.Changed.{lent, lent_there, done_lent}
use Rattle.list_commands.specs.ListCommand.{at_list, may_be_list, push_step}
use Rattle.list_commands.proofs.ends.push.Goals as goal

pub returns-in-Some-clause-done : goal.returns-in-Some-clause-done
returns-in-Some-clause-done g c =
    let changed = c.push_on in
    let old = g.K.Keyspace.contents c.args.keyspace.now in
    done_lent c.args.key (at_list (push_step c.args.end c.args.items)) old _ changed.new.value changed.result
    c.as_slice.ensures c.in-Some.is c.look_mut.ensures.value
    (lent c.in-Some.is (c.look_mut.follows.holds changed.new.value)) changed.ensures.done

pub returns-in-Some-clause-starves : goal.returns-in-Some-clause-starves
returns-in-Some-clause-starves g c =
    let old = g.K.Keyspace.contents c.args.keyspace.now in
    let there = lent_there c.args.key old c.as_slice.ensures c.in-Some.is c.look_mut.ensures.value in
    subst (λ t. OnErr c.push_on.result (IsTrue (may_be_list t))) (sym there) c.push_on.ensures.starves
