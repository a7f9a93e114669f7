use Rattle.std.proofs.Common.{◌+◌, [], ◌∷◌, length, map, All, IsTrue, arith, ap, subst}
use Rattle.std.proofs.Common.{ℕ, List, length-append}
use Rattle.std.proofs.lemmas.List.{length-map, map-append}
use Rattle.std.specs.List.{flat_map}
use Rattle.groups.specs.Skips.{parts_of}
use Rattle.resp.specs.Content.{content}
use Rattle.tasks.proofs.Runs.{all-left, all-right, runs-push, taken-push, next_within}
use Rattle.tasks.proofs.Texts.{texts-push}
use Rattle.tasks.specs.BatchAnswer.{MemberAnswerTakesMemory}
use Rattle.tasks.specs.Keys.{member_keys}
use Rattle.tasks.specs.Member.{Fares}
use Rattle.tasks.specs.Starved.{has}
use Rattle.tasks.proofs.answered_members.answer_members.Goals as goal

pub overflow_sub-spare : goal.overflow_sub-spare
overflow_sub-spare g c = omega (arith, c.loop-member.invariant.rest, ap length c.in-Some.ensures.steps.0)

pub answer_member-reply-requires : goal.answer_member-reply-requires
answer_member-reply-requires g c =
    let covered : List ℕ → Type 0 = λ key. IsTrue (g.K.Keyspace.covered key) in record {
      covered = all-left covered (member_keys c.in-Some.member) _
          (subst (λ ms. All covered (flat_map member_keys ms)) c.in-Some.ensures.steps.0 c.loop-member.invariant.left);
      room = omega (
        arith,
        c.loop-member.invariant.spare,
        c.loop-member.invariant.rest,
        ap length c.in-Some.ensures.steps.0,
      );
    }

pub push_reserved-requires : goal.push_reserved-requires
push_reserved-requires g c =
    let within = next_within _ c.loop-member.yielded c.in-Some.member _ _ c.in-Some.ensures.steps.0 c.loop-member.invariant.split in
    omega (arith, within, c.loop-member.invariant.count, c.loop-member.invariant.room, c.loop-member.replies.ok)

pub loop-member-preserved : goal.loop-member-preserved
loop-member-preserved g c =
    let covered : List ℕ → Type 0 = λ key. IsTrue (g.K.Keyspace.covered key) in
    let left = subst (λ ms. All covered (flat_map member_keys ms)) c.in-Some.ensures.steps.0 c.loop-member.invariant.left in
    let before = g.K.Keyspace.contents c.loop-member.keyspace in
    let after = g.K.Keyspace.contents c.answer_member-reply.new.keyspace in
    let reply = content c.answer_member-reply.result in
    let skipped = parts_of c.args.skip.now c.args.id in
    let said : Fares MemberAnswerTakesMemory (has skipped (c.len-number.result + 1)) c.in-Some.member before after reply
    = subst (λ b. Fares MemberAnswerTakesMemory b c.in-Some.member before after reply) c.names_member-skipped.ensures
    c.answer_member-reply.ensures.fares in record {
      run = rw (c.push_reserved.ensures.items, map-append content)
          (runs-push MemberAnswerTakesMemory skipped 1 (c.len-number.result + 1) _ before after c.loop-member.yielded
          (map content c.loop-member.replies.items) c.in-Some.member reply
          (omega (arith, c.len-number.ensures, length-map c.loop-member.replies.items content, c.loop-member.replies.ok))
          c.loop-member.invariant.run said);
      texts = texts-push c.args.out.now.items c.loop-member.out.items _ c.loop-member.replies.items _ c.answer_member-reply.result
          c.loop-member.invariant.texts c.answer_member-reply.ensures.text c.push_reserved.ensures.items;
      split = taken-push _ c.loop-member.yielded c.in-Some.member _ _ c.in-Some.ensures.steps.0 c.loop-member.invariant.split;
      count = omega (
        arith,
        ap length c.push_reserved.ensures.items,
        length-append c.loop-member.replies.items (c.answer_member-reply.result ∷ []),
        length-append c.loop-member.yielded (c.in-Some.member ∷ []),
        c.loop-member.invariant.count,
      );
      room = omega (arith, c.loop-member.invariant.room, c.push_reserved.ensures.capacity);
      spare = c.answer_member-reply.ensures.spare;
      rest = omega (arith, c.loop-member.invariant.rest, ap length c.in-Some.ensures.steps.0);
      left = all-right covered (member_keys c.in-Some.member) _ left;
    }
