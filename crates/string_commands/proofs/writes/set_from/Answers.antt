use Rattle.std.proofs.Common.{Some, sym, subst}
use Rattle.std.specs.Result.{OnErr}
use Rattle.command_cases.proofs.Changed.{lent, lent_there, done_lent}
use Rattle.command_cases.specs.Changes.{Changes}
use Rattle.string_commands.specs.StringCommand.{at_string, setrange_string, Grows}
use Rattle.string_commands.proofs.writes.set_from.Goals as goal

pub returns-in-Some-clause-done : goal.returns-in-Some-clause-done
returns-in-Some-clause-done g c =
    let changed = c.write_over in
    let before = c.in-Some.there.now in
    let same_bytes = c.as_slice-in-Some.ensures in
    let done = subst (λ bytes. Changes (at_string (setrange_string c.args.offset bytes)) before changed.new.value changed.result)
    same_bytes changed.ensures.done in
    let old = g.K.Keyspace.contents c.args.keyspace.now in
    done_lent c.args.key (at_string (setrange_string c.args.offset c.args.value)) old _ changed.new.value changed.result
    c.as_slice.ensures c.in-Some.is c.look_mut.ensures.value (lent c.in-Some.is (c.look_mut.follows.holds changed.new.value)) done

pub returns-in-Some-clause-starves : goal.returns-in-Some-clause-starves
returns-in-Some-clause-starves g c =
    let old = g.K.Keyspace.contents c.args.keyspace.now in
    let there = lent_there c.args.key old c.as_slice.ensures c.in-Some.is c.look_mut.ensures.value in
    let starves = subst (λ bytes. OnErr c.write_over.result (Grows (at_string (setrange_string c.args.offset bytes))
    (Some c.in-Some.there.now))) c.as_slice-in-Some.ensures c.write_over.ensures.starves in
    subst (λ t. OnErr c.write_over.result (Grows (at_string (setrange_string c.args.offset c.args.value)) t)) (sym there) starves
