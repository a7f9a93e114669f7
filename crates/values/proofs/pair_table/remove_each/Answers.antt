use Rattle.std.proofs.Common.{◌≡◌, not, [], ap, sym, ◌∙◌}
use Rattle.texts.specs.Texts.{texts_of}
use Rattle.values.specs.HashValue.{pairs_seen}
use Rattle.values.specs.SetValue.{is_member, members_seen, with_members}
use Rattle.values.proofs.MembersAlike.{member-of_all}
use Rattle.values.proofs.PairsLeft.{stays, without-each, kept-seen, filter-alike}
use Rattle.values.proofs.PairsSeen.{distinct-seen}
use Rattle.values.proofs.pair_table.remove_each.Goals as goal

-- the table of the fields has them as its members
pub returns-in-Ok-clause-left : goal.returns-in-Ok-clause-left
returns-in-Ok-clause-left c =
    let pairs = c.args.pairs.now.entries in
    let fields = texts_of c.args.fields.items in
    let members = members_seen c.insert_each.new.there.keys in
    let all : members ≡ with_members [] fields =
    c.insert_each.ensures.joined ∙ ap (λ keys. with_members (members_seen keys) fields) c.in-Ok.ensures.empty in
    ap pairs_seen c.keep_others.ensures.kept ∙ kept-seen (stays members) pairs
    ∙ filter-alike (stays members) (stays fields)
    (λ p. ap (λ ms. not (is_member ms p.0)) all ∙ ap not (member-of_all fields p.0)) (pairs_seen pairs)
    ∙ sym (without-each fields (pairs_seen pairs) (distinct-seen pairs c.len-then-len-gt-FEW_FIELDS.ensures.unique))
