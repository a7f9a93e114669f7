use Rattle.std.proofs.Common.{sym, ◌∙◌}
use Rattle.shard_exec.proofs.InRow.{group_inside, in_place}
use Rattle.shard_exec.proofs.row_run.run_in_row.Goals as goal

pub run_in_place-requires : goal.run_in_place-requires
run_in_place-requires g c =
    group_inside c.args.table.now c.args.row.now.items c.args.placed c.requires.is_table c.requires.shards c.requires.own c.requires.groups
    c.in-Some.group (sym c.groups-groups.ensures ∙ c.in-Some.ensures)

pub returns-in-Some-clause-ran : goal.returns-in-Some-clause-ran
returns-in-Some-clause-ran g c =
    in_place c.args.table.now c.args.row.now.items c.args.placed c.requires.is_table c.requires.shards c.requires.own c.requires.groups
    c.args.skip.now c.run_in_place.result c.in-Some.group c.run_in_place.new.row.items (sym c.groups-groups.ensures ∙ c.in-Some.ensures)
    c.run_in_place.ensures.ran c.run_in_place.ensures.row
