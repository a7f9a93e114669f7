use Rattle.std.proofs.Common.{sym, ◌∙◌}
use Rattle.command_table.specs.KeyCommands.{key_rows}
use Rattle.command_table.proofs.RowHeads.{is_there, is_refused}
use Rattle.command_table.proofs.key_commands.read_key_command.Goals as goal

pub returns-in-Err : goal.returns-in-Err
returns-in-Err c = is_refused key_rows c.args.name.now c.args.words c.len.result c.in-Err.refused c.len.ensures c.in-Err.ensures

pub read_key_row-requires : goal.read_key_row-requires
read_key_row-requires c =
    let found = is_there key_rows c.args.name.now c.args.words c.len.result c.in-Ok.place c.len.ensures c.in-Ok.ensures in
    record { there = found.0; taken = found.1 }

pub returns : goal.returns
returns c =
    let found = is_there key_rows c.args.name.now c.args.words c.len.result c.in-Ok.place c.len.ensures c.in-Ok.ensures in
    c.read_key_row.ensures ∙ sym found.2
