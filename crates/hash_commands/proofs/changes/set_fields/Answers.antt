use Rattle.std.proofs.Common.{sym, subst}
use Rattle.std.specs.Result.{OnErr}
use Rattle.command_cases.proofs.Changed.{lent, lent_there, done_lent}
use Rattle.std.specs.Option.{IsSome}
use Rattle.hash_commands.specs.HashCommand.{changes_hash, set_change, pairs_there}
use Rattle.hash_commands.specs.SetAnswer.{set_answer}
use Rattle.hash_commands.proofs.changes.set_fields.Goals as goal

pub returns-in-Some-clause-done : goal.returns-in-Some-clause-done
returns-in-Some-clause-done g c =
    let changed = c.set_in_place in
    let old = g.K.Keyspace.contents c.args.keyspace.now in
    done_lent c.args.key (changes_hash (set_change (set_answer c.args.answer) c.args.pairs)) old _ changed.new.value changed.result
    c.as_slice.ensures c.in-Some.is c.look_mut.ensures.value
    (lent c.in-Some.is (c.look_mut.follows.holds changed.new.value)) changed.ensures.done

pub returns-in-Some-clause-starves : goal.returns-in-Some-clause-starves
returns-in-Some-clause-starves g c =
    let old = g.K.Keyspace.contents c.args.keyspace.now in
    let there = lent_there c.args.key old c.as_slice.ensures c.in-Some.is c.look_mut.ensures.value in
    subst (λ t. OnErr c.set_in_place.result (IsSome (pairs_there t))) (sym there) c.set_in_place.ensures.starves
