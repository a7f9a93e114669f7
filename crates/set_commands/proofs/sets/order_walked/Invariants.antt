use Rattle.std.proofs.Common.{◌≡◌}
use Rattle.set_commands.proofs.sets.order_walked.Given as goal

-- nothing has changed that is seen
abbrev pub invariant-loop-i : goal.invariant-loop-i
invariant-loop-i g l = g.K.Keyspace.contents l.keyspace ≡ g.K.Keyspace.contents l.fn.keyspace
