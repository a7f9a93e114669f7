use Rattle.std.proofs.Common.{refl, sym, ap, subst, ◌∙◌, arith}
use Rattle.std.proofs.lemmas.List.{with_items_is}
use Rattle.std.proofs.lemmas.Map.Steps.{set_value_same}
use Rattle.std.specs.Map.{lookup}
use Rattle.std.specs.Option.{IsSome, option_copied_mut}
use Rattle.std.specs.Str.{bytes_eq}
use Rattle.std.specs.Vec.{with_items}
use Rattle.values.proofs.PairsSeen.{set-seen}
use Rattle.values.specs.HashValue.{pairs_seen, with_field}
use Rattle.values.proofs.pair_table.overwrite.Goals as goal

-- what was lent comes back as it was
pub returns-then-len-value-clause-other : goal.returns-then-len-value-clause-other
returns-then-len-value-clause-other c =
    let q = c.args.field.now in
    let found = ap option_copied_mut (sym c.in-Some.is) ∙ c.get_mut.ensures.value in
    λ _. ap pairs_seen ((c.get_mut.follows.holds c.in-Some.there.now).0
    ∙ set_value_same (bytes_eq q) c.args.pairs.now.entries c.in-Some.there.now (sym found))

pub returns-clause-written : goal.returns-clause-written
returns-clause-written c =
    let q = c.args.field.now in
    let es = c.args.pairs.now.entries in
    let there : IsSome (lookup (bytes_eq q) es) = subst IsSome (ap option_copied_mut (sym c.in-Some.is) ∙ c.get_mut.ensures.value) refl in
    let copied = c.copy_from_slice.new.self in
    let w = with_items c.in-Some.there.now copied in
    let full = with_items_is c.in-Some.there.now copied (omega (arith, c.copy_from_slice.ensures.len, c.as_mut_slice.ensures.len)) in
    λ _. ap pairs_seen (c.get_mut.follows.holds w).0 ∙ set-seen q w es there
    ∙ ap (with_field (pairs_seen es) q) (full ∙ c.copy_from_slice.ensures.after)
