use Rattle.std.proofs.Common.{length, sym, ap, ◌∙◌}
use Rattle.groups.specs.GroupSet.{has}
use Rattle.shard_exec.proofs.InRow.{groups_inside, moved_ready, moved_inside, moved}
use Rattle.shards.proofs.Rows.{length-emptied}
use Rattle.shards.specs.Rows.{taken_out, emptied}
use Rattle.std.specs.FinMap.{empty}
use Rattle.shard_exec.proofs.row_run.run_moved.Goals as goal

pub take_shards-shards-requires-clause-inside : goal.take_shards-shards-requires-clause-inside
take_shards-shards-requires-clause-inside g c n there =
    groups_inside c.args.table.now c.args.row.now.items c.args.placed c.requires.is_table c.requires.shards c.requires.own c.requires.groups
    n (ap (λ gs. has gs n) (sym c.groups-groups.ensures) ∙ there)

pub run_over-ran-requires : goal.run_over-ran-requires
run_over-ran-requires g c =
    moved_ready c.args.table.now c.args.row.now.items c.args.placed c.requires.is_table c.requires.shards c.requires.own c.requires.groups
    c.take_shards-shards.result.items
    (c.take_shards-shards.ensures.taken ∙ ap (λ gs. taken_out empty c.args.row.now.items gs) c.groups-groups.ensures)

pub put_back-requires : goal.put_back-requires
put_back-requires g c =
    moved_inside c.args.table.now c.args.row.now.items c.args.placed c.requires.is_table c.requires.shards c.requires.own c.requires.groups
    c.take_shards-shards.result.items c.run_over-ran.result.1.items c.take_shards-shards.new.row.items
    (c.take_shards-shards.ensures.taken ∙ ap (λ gs. taken_out empty c.args.row.now.items gs) c.groups-groups.ensures)
    (c.take_shards-shards.ensures.left ∙ ap (λ gs. emptied empty c.args.row.now.items gs) c.groups-groups.ensures)
    c.run_over-ran.ensures.numbers

pub returns-clause-ran : goal.returns-clause-ran
returns-clause-ran g c =
    moved c.args.table.now c.args.row.now.items c.args.placed c.requires.is_table c.requires.shards c.requires.own c.requires.groups
    c.args.skip.now c.run_over-ran.result.0 c.take_shards-shards.result.items c.run_over-ran.result.1.items
    c.take_shards-shards.new.row.items c.put_back.new.row.items
    (c.take_shards-shards.ensures.taken ∙ ap (λ gs. taken_out empty c.args.row.now.items gs) c.groups-groups.ensures)
    (c.take_shards-shards.ensures.left ∙ ap (λ gs. emptied empty c.args.row.now.items gs) c.groups-groups.ensures)
    c.run_over-ran.ensures c.put_back.ensures.row

pub returns-clause-shards : goal.returns-clause-shards
returns-clause-shards g c =
    c.put_back.ensures.len ∙ ap (λ (l : _). length l) c.take_shards-shards.ensures.left
    ∙ length-emptied empty c.args.row.now.items c.groups-groups.result
