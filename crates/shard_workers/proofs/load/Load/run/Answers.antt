use Rattle.std.proofs.Common.{rules, [], subst}
use Rattle.std.specs.List.{AllZip}
use Rattle.std.proofs.lemmas.List.{append-nil}
use Rattle.shard_workers.specs.Runs.{HasRun}
use Rattle.shard_workers.proofs.Zips.{none_left}
use Rattle.shard_workers.proofs.load.Load.run.Goals as goal

pub returns : goal.returns
returns g c = subst (AllZip (HasRun c.args.table.now c.args.skip.now) c.args.self.works.items) (append-nil _)
    (c.loop-work.invariant.0 [] (none_left _ _ (search rules)))
