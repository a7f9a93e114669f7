use Rattle.std.proofs.Common.{sym, ◌∙◌}
use Rattle.command_table.specs.SetCommands.{set_rows}
use Rattle.command_table.proofs.RowHeads.{is_there, is_refused}
use Rattle.command_table.proofs.set_commands.read_set_command.Goals as goal

pub returns-in-Err : goal.returns-in-Err
returns-in-Err c = is_refused set_rows c.args.name.now c.args.words c.len.result c.in-Err.refused c.len.ensures c.in-Err.ensures

pub read_set_row-requires : goal.read_set_row-requires
read_set_row-requires c =
    let found = is_there set_rows c.args.name.now c.args.words c.len.result c.in-Ok.place c.len.ensures c.in-Ok.ensures in
    record { there = found.0; taken = found.1 }

pub returns : goal.returns
returns c =
    let found = is_there set_rows c.args.name.now c.args.words c.len.result c.in-Ok.place c.len.ensures c.in-Ok.ensures in
    c.read_set_row.ensures ∙ sym found.2
