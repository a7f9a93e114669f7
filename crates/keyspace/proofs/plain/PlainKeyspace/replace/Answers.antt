use Rattle.std.proofs.Common.{Option, Some, None, MutBor, refl, sym, ap, subst, ◌∙◌}
use Rattle.std.specs.Option.{IsSome, option_copied_mut}
use Rattle.keyspace.proofs.Entries.{get-map_of, map_of-inserted}
use Rattle.values.specs.declared.Value.{Value}
use Rattle.keyspace.proofs.plain.PlainKeyspace.replace.Goals as goal

-- what is lent is there where its value is
some_lent : (o : Option (MutBor Value)) → IsSome (option_copied_mut o) → IsSome o
some_lent None h = h
some_lent (Some x) h = refl

pub unwrap-there-requires : goal.unwrap-there-requires
unwrap-there-requires g c =
    some_lent _ (subst IsSome (get-map_of c.args.self.now.entries.entries c.args.key.now ∙ sym c.get_mut.ensures.value) c.requires.there)

pub returns-clause-before : goal.returns-clause-before
returns-clause-before g c =
    get-map_of c.args.self.now.entries.entries c.args.key.now ∙ sym c.get_mut.ensures.value
    ∙ ap option_copied_mut c.unwrap-there.ensures ∙ ap Some (sym c.replace.ensures.value)

pub returns-clause-replaced : goal.returns-clause-replaced
returns-clause-replaced g c =
    let there = subst IsSome (get-map_of c.args.self.now.entries.entries c.args.key.now) c.requires.there in
    let u = (c.get_mut.follows.holds c.replace.new.dest).3 there in
    map_of-inserted c.args.key.now c.args.self.now.entries.entries _ c.args.value (u.1
    ∙ ap Some {x = c.replace.new.dest} c.replace.ensures.after) u.3
