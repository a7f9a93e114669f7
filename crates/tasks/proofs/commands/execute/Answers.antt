use Rattle.tasks.proofs.Effects.{effect-case}
use Rattle.tasks.proofs.commands.execute.Goals as goal

pub returns-clause-done : goal.returns-clause-done
returns-clause-done g c = rw (effect-case c.args.command (g.K.Keyspace.contents c.args.keyspace.now)) c.run.ensures.done
