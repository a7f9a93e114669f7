use Rattle.std.proofs.Common.{rules, [], subst}
use Rattle.std.specs.List.{AllZip}
use Rattle.std.proofs.lemmas.List.{append-nil}
use Rattle.shard_workers.specs.Loads.{HasRunLoad}
use Rattle.shard_workers.proofs.Zips.{none_left}
use Rattle.shard_workers.proofs.workers.run_in_turn.Goals as goal

pub returns : goal.returns
returns g c = subst (AllZip (HasRunLoad c.args.table.now c.args.skip.now) c.args.loads.items) (append-nil _)
    (c.loop-load.invariant.0 [] (none_left _ _ (search rules)))
