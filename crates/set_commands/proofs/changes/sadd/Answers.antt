use Rattle.std.proofs.Common.{sym, subst}
use Rattle.std.specs.Result.{OnErr}
use Rattle.command_cases.proofs.Changed.{lent, lent_there, done_lent}
use Rattle.std.specs.Option.{IsSome}
use Rattle.set_commands.specs.SetCommand.{changes_set, sadd_change, members_there}
use Rattle.set_commands.proofs.changes.sadd.Goals as goal

pub returns-in-Some-clause-done : goal.returns-in-Some-clause-done
returns-in-Some-clause-done g c =
    let changed = c.add_in_place in
    let old = g.K.Keyspace.contents c.args.keyspace.now in
    done_lent c.args.key (changes_set (sadd_change c.args.members)) old _ changed.new.value changed.result
    c.as_slice.ensures c.in-Some.is c.look_mut.ensures.value
    (lent c.in-Some.is (c.look_mut.follows.holds changed.new.value)) changed.ensures.done

pub returns-in-Some-clause-starves : goal.returns-in-Some-clause-starves
returns-in-Some-clause-starves g c =
    let old = g.K.Keyspace.contents c.args.keyspace.now in
    let there = lent_there c.args.key old c.as_slice.ensures c.in-Some.is c.look_mut.ensures.value in
    subst (λ t. OnErr c.add_in_place.result (IsSome (members_there t))) (sym there) c.add_in_place.ensures.starves
