use Rattle.std.proofs.Common.{rules, [], subst}
use Rattle.std.specs.List.{AllZip}
use Rattle.std.proofs.lemmas.List.{append-nil}
use Rattle.shard_workers.proofs.Zips.{none_left}
use Rattle.shard_crew.proofs.crew.join_all.Goals as goal

pub returns-clause-each : goal.returns-clause-each
returns-clause-each g c = subst (AllZip _ c.args.children.items) (append-nil _) (c.loop-child.invariant.0 [] (none_left _ _ (search rules)))
