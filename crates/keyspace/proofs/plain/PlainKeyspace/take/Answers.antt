use Rattle.std.proofs.Common.{sym, ap, ◌∙◌}
use Rattle.keyspace.proofs.Entries.{get-map_of, map_of-removed}
use Rattle.keyspace.specs.Plain.{map_of}
use Rattle.keyspace.proofs.plain.PlainKeyspace.take.Goals as goal

pub returns-clause-before : goal.returns-clause-before
returns-clause-before g c = c.swap_remove-taken.ensures.value ∙ sym (get-map_of c.args.self.now.entries.entries c.args.key.now)

pub returns-clause-removed : goal.returns-clause-removed
returns-clause-removed g c =
    let u = c.swap_remove-taken.ensures.updates in
    ap map_of c.give_back.ensures
    ∙ map_of-removed c.args.key.now c.args.self.now.entries.entries c.swap_remove-taken.new.self.entries u.1 u.3
