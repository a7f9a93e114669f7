use Rattle.std.proofs.Common.{◌<◌, [], ◌∷◌, sym, ap, ◌∙◌, subst, refl}
use Rattle.shards.proofs.PutBack.{works_in_turn}
use Rattle.shard_exec.specs.Layers.{IsDone}
use Rattle.shard_exec.specs.declared.done.Ended.{Ended}
use Rattle.groups.specs.GroupSet.{has}
use Rattle.shard_workers.specs.declared.placed_job.PlacedJob.{PlacedJob}
use Rattle.shard_exec.proofs.InRow.{alone_done, groups_inside}
use Rattle.shard_exec.proofs.layer_run.run_alone.Goals as goal

pub returns-clause-done : goal.returns-clause-done
returns-clause-done g c =
    subst (λ (e : Ended). IsDone c.args.table.now c.args.row.now.items c.args.skip.now (c.args.job ∷ []) (e ∷ [])
    c.run_in_row-ran.new.row.items) (sym c.tell.ensures.ended)
    (alone_done works_in_turn c.args.table.now c.args.row.now.items c.run_in_row-ran.new.row.items c.args.skip.now
    (record { place = 0; job = c.args.job }) c.run_in_row-ran.result c.requires.is_table
    c.requires.own c.requires.groups refl c.run_in_row-ran.ensures.ran)

pub tell-requires : goal.tell-requires
tell-requires g c n there =
    let t : PlacedJob = record { place = 0; job = c.args.job } in
    subst (λ k. n < k) (c.requires.shards ∙ sym c.requires.lasts)
    (groups_inside c.args.table.now c.args.row.now.items t c.requires.is_table c.requires.shards c.requires.own c.requires.groups n
    (ap (λ gs. has gs n) (sym c.run_in_row-ran.ensures.ran.over.on.groups) ∙ there))

pub returns-clause-own : goal.returns-clause-own
returns-clause-own g c =
    (alone_done works_in_turn c.args.table.now c.args.row.now.items c.run_in_row-ran.new.row.items c.args.skip.now
    (record { place = 0; job = c.args.job }) c.run_in_row-ran.result c.requires.is_table
    c.requires.own c.requires.groups refl c.run_in_row-ran.ensures.ran).own
