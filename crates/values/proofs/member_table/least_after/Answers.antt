use Rattle.std.proofs.Common.{◌≡◌, ◌+◌, ◌&&◌, cond, [], ◌∷◌, ◌++◌, take, ap, sym, ◌∙◌, arith}
use Rattle.std.proofs.lemmas.List.{take_all, take_more}
use Rattle.values.proofs.MembersAfter.{both-true, first-false, second-false, least-with, least-and_rest}
use Rattle.values.proofs.MembersSeen.{seen-ascends, with_members-pushed}
use Rattle.values.specs.Items.{lent}
use Rattle.values.specs.SetValue.{is_above, is_below, members_after, members_seen, with_member}
use Rattle.values.proofs.member_table.least_after.Goals as goal
use Rattle.values.proofs.member_table.least_after.Goals.{
  then-is_above+then-is_below,
  else-is_above,
  else-is_above-via-then-is_above+else-is_below,
  else-is_above-via-else-is_above,
}

pub loop-key-preserved : goal.loop-key-preserved
loop-key-preserved c =
    let keys = c.args.keys.now in
    let after = c.args.after in
    let least = c.loop-key.least in
    let i = c.loop-key.key-index in
    let member = c.as_slice-member.result.now in
    let seen = members_seen (take i keys) in
    let turn : members_seen (take (i + 1) keys) ≡ with_member seen member =
    ap members_seen (take_more keys i c.key-item.result c.loop-key-test.true ∙ ap (λ k. take i keys ++ k ∷ []) (sym c.key-item.is))
    ∙ with_members-pushed [] (take i keys) c.key-item.result
    ∙ ap (with_member seen) (sym c.as_slice-member.ensures) in
    let chosen : lent c.if-is_above.least ≡ cond (is_above after member && is_below least member) (member ∷ []) (lent least) =
    elim c.if-is_above.branch [
      | then-is_above+then-is_below w ↦
          ap lent w.least-is
          ∙ sym
          (both-true (member ∷ []) (lent least) (is_above after member) (is_below least member)
          (sym c.is_above.ensures ∙ w.if-is_above.true) (sym w.is_below.ensures ∙ w.if-is_below.true))
      | else-is_above w ↦
          ap lent w.least-is
          ∙ elim w.else-is_above.branch [
            | else-is_above-via-then-is_above+else-is_below v ↦
                sym
                (second-false (member ∷ []) (lent least) (is_above after member) (is_below least member)
                (sym c.is_above.ensures ∙ v.if-is_above.true) (sym v.is_below.ensures ∙ v.if-is_below.false))
            | else-is_above-via-else-is_above v ↦
                sym
                (first-false (member ∷ []) (lent least) (is_above after member) (is_below least member)
                (sym c.is_above.ensures ∙ v.if-is_above.false))
          ]
    ] in
    chosen
    ∙ least-with after least seen member (seen-ascends (take i keys)) c.loop-key.invariant
    ∙ ap (λ ms. take 1 (members_after after ms)) (sym turn)

pub returns : goal.returns
returns c =
    let keys = c.args.keys.now in
    let after = c.args.after in
    let i = c.loop-key.key-index in
    let whole : take i keys ≡ keys = take_all i keys (omega (arith, c.loop-key-test.false)) in
    least-and_rest after c.loop-key.least (members_seen keys) (seen-ascends keys)
    (c.loop-key.invariant ∙ ap (λ keys. take 1 (members_after after (members_seen keys))) whole)
