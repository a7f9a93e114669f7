use Rattle.std.proofs.Common.{sym, ◌∙◌}
use Rattle.keyspace.proofs.Entries.{get-map_of}
use Rattle.keyspace.proofs.plain.PlainKeyspace.look.Goals as goal

pub returns : goal.returns
returns g c = c.get.ensures.value ∙ sym (get-map_of c.args.self.now.entries.entries c.args.key.now)
