use Rattle.std.proofs.Common.{sym, ◌∙◌}
use Rattle.command_table.specs.ListCommands.{list_rows}
use Rattle.command_table.proofs.RowHeads.{is_there, is_refused}
use Rattle.command_table.proofs.list_commands.read_list_command.Goals as goal

pub returns-in-Err : goal.returns-in-Err
returns-in-Err c = is_refused list_rows c.args.name.now c.args.words c.len.result c.in-Err.refused c.len.ensures c.in-Err.ensures

pub read_list_row-requires : goal.read_list_row-requires
read_list_row-requires c =
    let found = is_there list_rows c.args.name.now c.args.words c.len.result c.in-Ok.place c.len.ensures c.in-Ok.ensures in
    record { there = found.0; taken = found.1 }

pub returns : goal.returns
returns c =
    let found = is_there list_rows c.args.name.now c.args.words c.len.result c.in-Ok.place c.len.ensures c.in-Ok.ensures in
    c.read_list_row.ensures ∙ sym found.2
