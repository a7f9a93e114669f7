use Rattle.std.proofs.Common.{rules}
use Rattle.command_cases.proofs.Items.{covered_after_first}
use Rattle.command_table.specs.SetCommands.{set_command_keys}
use Rattle.set_commands.proofs.run_set_command.Goals as goal

pub command_rows-sinterstore-requires-clause-sources :
    goal.command_rows-sinterstore-requires-clause-sources
command_rows-sinterstore-requires-clause-sources g c i d within =
    covered_after_first g.K.Keyspace.covered (set_command_keys c.args.command) _ i d c.requires (search rules) within

pub command_rows-sunionstore-requires-clause-sources :
    goal.command_rows-sunionstore-requires-clause-sources
command_rows-sunionstore-requires-clause-sources g c i d within =
    covered_after_first g.K.Keyspace.covered (set_command_keys c.args.command) _ i d c.requires (search rules) within

pub command_rows-sdiffstore-requires-clause-sources :
    goal.command_rows-sdiffstore-requires-clause-sources
command_rows-sdiffstore-requires-clause-sources g c i d within =
    covered_after_first g.K.Keyspace.covered (set_command_keys c.args.command) _ i d c.requires (search rules) within
