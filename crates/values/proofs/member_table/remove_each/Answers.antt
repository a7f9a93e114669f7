use Rattle.std.proofs.Common.{◌≡◌, ◌+◌, ◌∷◌, drop, ap, sym, ◌∙◌, arith}
use Rattle.texts.specs.Texts.{texts_of}
use Rattle.values.proofs.Mapped.{map-drop_turn}
use Rattle.values.specs.SetValue.{members_seen, without_member, without_members}
use Rattle.values.proofs.member_table.remove_each.Goals as goal

pub loop-member-preserved : goal.loop-member-preserved
loop-member-preserved c =
    let members = c.args.members.now in
    let i = c.loop-member.member-index in
    let member = c.as_slice.result.now in
    let rest = texts_of (drop (i + 1) members) in
    let seen = members_seen c.loop-member.there.keys in
    let turn : texts_of (drop i members) ≡ member ∷ rest =
    map-drop_turn (λ t. t.items) members i c.member-item.result c.loop-member-test.true c.member-item.is
    ∙ ap (λ t. t ∷ rest) (sym c.as_slice.ensures.value) in
    let removed : members_seen c.remove.new.there.keys ≡ without_member seen member =
    c.remove.ensures.left in
    record {
      left =
          ap (λ ms. without_members ms rest) removed ∙ ap (without_members seen) (sym turn) ∙ c.loop-member.invariant.left;
      bound = omega (arith, c.remove.ensures.bound, c.loop-member.invariant.bound);
    }
