use Rattle.std.proofs.Common.{sym, subst, ◌≤◌}
use Rattle.std.proofs.lemmas.Option.{slice_get_past}
use Rattle.keyspace.proofs.plain.PlainListed.entry.Goals as goal

pub returns-else-place-len-clause-entry : goal.returns-else-place-len-clause-entry
returns-else-place-len-clause-entry g c =
    let es = c.args.self.now.entries.entries in
    sym (slice_get_past es c.args.place (subst (λ n. n ≤ c.args.place) c.len.ensures.len c.if-place-len.false))
