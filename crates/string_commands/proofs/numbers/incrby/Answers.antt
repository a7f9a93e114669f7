use Rattle.std.proofs.Common.{Some, w64, sym, subst}
use Rattle.std.proofs.lemmas.Int.{to_z-of_z}
use Rattle.std.specs.Result.{OnErr}
use Rattle.command_cases.proofs.Changed.{lent, lent_there, done_lent}
use Rattle.command_cases.specs.Changes.{Changes}
use Rattle.string_commands.specs.StringCommand.{incrby_step, Grows}
use Rattle.string_commands.proofs.numbers.incrby.Goals as goal

pub returns-in-Some-clause-done : goal.returns-in-Some-clause-done
returns-in-Some-clause-done g c =
    let changed = c.change_number in
    let old = g.K.Keyspace.contents c.args.keyspace.now in
    let same_number = to_z-of_z w64 c.args.by c.ranges.by in
    let done = subst (λ by. Changes (incrby_step by) c.in-Some.value.now changed.new.value changed.result)
    same_number changed.ensures.done in
    done_lent c.args.key (incrby_step c.args.by) old _ changed.new.value changed.result
    c.as_slice.ensures c.in-Some.is c.look_mut.ensures.value (lent c.in-Some.is (c.look_mut.follows.holds changed.new.value)) done

pub returns-in-Some-clause-starves : goal.returns-in-Some-clause-starves
returns-in-Some-clause-starves g c =
    let changed = c.change_number in
    let old = g.K.Keyspace.contents c.args.keyspace.now in
    let same_number = to_z-of_z w64 c.args.by c.ranges.by in
    let there = lent_there c.args.key old c.as_slice.ensures c.in-Some.is c.look_mut.ensures.value in
    let starves = subst (λ by. OnErr changed.result (Grows (incrby_step by) (Some c.in-Some.value.now)))
    same_number changed.ensures.starves in
    subst (λ t. OnErr changed.result (Grows (incrby_step c.args.by) t)) (sym there) starves
