use Rattle.std.proofs.Common.{ap, ◌∙◌}
use Rattle.std.specs.FinMap.{insert}
use Rattle.command_cases.proofs.Changed.{lent}
use Rattle.string_commands.proofs.pairs.put.Goals as goal

pub returns-in-Some-clause-ok : goal.returns-in-Some-clause-ok
returns-in-Some-clause-ok g c =
    lent c.in-Some.is (c.look_mut.follows.holds c.replace.new.dest)
    ∙ ap (insert (g.K.Keyspace.contents c.args.keyspace.now) c.args.key.now) c.replace.ensures.after
