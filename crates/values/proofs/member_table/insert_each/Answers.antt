use Rattle.std.proofs.Common.{◌≡◌, [], ◌∷◌, length, reverse, ap, sym, ◌∙◌, arith}
use Rattle.std.proofs.lemmas.List.{length-append, length-reverse, reverse-reverse}
use Rattle.texts.specs.Texts.{texts_of}
use Rattle.values.proofs.Mapped.{map-reverse, reverse-map_pushed}
use Rattle.values.specs.SetValue.{members_seen, with_member, with_members}
use Rattle.values.proofs.member_table.insert_each.Goals as goal

pub loop-member-init : goal.loop-member-init
loop-member-init c =
    let members = c.args.members.items in
    let turned : reverse (texts_of c.reverse.new.self.items) ≡ texts_of members =
    ap (λ l. reverse (texts_of l)) c.reverse.ensures.items ∙ ap reverse (map-reverse (λ t. t.items) members)
    ∙ reverse-reverse (texts_of members) in
    record {
      joined = ap (with_members (members_seen c.args.there.now.keys)) turned;
      room = omega (arith, ap length c.reverse.ensures.items, length-reverse members, c.requires);
      bound = omega arith;
    }

pub loop-member-preserved : goal.loop-member-preserved
loop-member-preserved c =
    let after = c.pop.new.self.items in
    let member = c.in-Some.member in
    let seen = members_seen c.loop-member.there.keys in
    let turn : reverse (texts_of c.loop-member.members.items) ≡ member.items ∷ reverse (texts_of after) =
    ap (λ l. reverse (texts_of l)) c.in-Some.ensures.items ∙ reverse-map_pushed (λ t. t.items) after member in
    let inserted : members_seen c.insert.new.there.keys ≡ with_member seen member.items =
    c.in-Ok.ensures.ok in
    record {
      joined =
          ap (λ ms. with_members ms (reverse (texts_of after))) inserted ∙ ap (with_members seen) (sym turn)
          ∙ c.loop-member.invariant.joined;
      room = omega (
        arith,
        ap length c.in-Some.ensures.items,
        length-append after (member ∷ []),
        c.loop-member.invariant.room,
        c.in-Ok.ensures.spare,
      );
      bound = omega (arith, c.in-Ok.ensures.bound, c.loop-member.invariant.bound);
    }
