use Rattle.std.proofs.Common.{sym, ◌∙◌}
use Rattle.command_table.specs.StringCommands.{string_rows}
use Rattle.command_table.proofs.RowHeads.{is_there, is_refused}
use Rattle.command_table.proofs.string_commands.read_string_command.Goals as goal

pub returns-in-Err : goal.returns-in-Err
returns-in-Err c = is_refused string_rows c.args.name.now c.args.words c.len.result c.in-Err.refused c.len.ensures c.in-Err.ensures

pub read_string_row-requires : goal.read_string_row-requires
read_string_row-requires c =
    let found = is_there string_rows c.args.name.now c.args.words c.len.result c.in-Ok.place c.len.ensures c.in-Ok.ensures in
    record { there = found.0; taken = found.1 }

pub returns : goal.returns
returns c =
    let found = is_there string_rows c.args.name.now c.args.words c.len.result c.in-Ok.place c.len.ensures c.in-Ok.ensures in
    c.read_string_row.ensures ∙ sym found.2
