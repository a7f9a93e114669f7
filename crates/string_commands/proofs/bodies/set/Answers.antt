use Rattle.std.proofs.Common.{Ok}
use Rattle.command_cases.specs.declared.Starved.{Starved}
use Rattle.command_cases.proofs.Changed.{lent, done_lent}
use Rattle.string_commands.specs.StringCommand.{set_step}
use Rattle.string_commands.proofs.bodies.set.Goals as goal

pub returns-in-Some-clause-done : goal.returns-in-Some-clause-done
returns-in-Some-clause-done g c =
    let old = g.K.Keyspace.contents c.args.keyspace.now in
    let set = c.set_there in
    done_lent {E = Starved} c.args.key (set_step c.args.value c.args.condition) old _ set.new.there (Ok set.result)
    c.as_slice.ensures c.in-Some.is c.look_mut.ensures.value (lent c.in-Some.is (c.look_mut.follows.holds set.new.there)) set.ensures
