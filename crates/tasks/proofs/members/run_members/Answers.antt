use Rattle.std.proofs.Common.{◌+◌, [], ◌∷◌, length, map, All, IsTrue, arith, ap, subst}
use Rattle.std.proofs.Common.{ℕ, List, length-append}
use Rattle.std.proofs.lemmas.List.{length-map, map-append}
use Rattle.std.specs.List.{flat_map}
use Rattle.resp.specs.Content.{content}
use Rattle.tasks.proofs.Runs.{all-left, all-right, runs-push, taken-push, next_within}
use Rattle.tasks.specs.Keys.{member_keys}
use Rattle.tasks.specs.Member.{Fares, MemberTakesMemory}
use Rattle.tasks.specs.Starved.{has}
use Rattle.tasks.proofs.members.run_members.Goals as goal

pub run_member-reply-requires : goal.run_member-reply-requires
run_member-reply-requires g c =
    let covered : List ℕ → Type 0 = λ key. IsTrue (g.K.Keyspace.covered key) in record {
      covered = all-left covered (member_keys c.in-Some.member) _
          (subst (λ ms. All covered (flat_map member_keys ms)) c.in-Some.ensures.steps.0 c.loop-member.invariant.left);
    }

pub push_reserved-requires : goal.push_reserved-requires
push_reserved-requires g c =
    let within = next_within _ c.loop-member.yielded c.in-Some.member _ _ c.in-Some.ensures.steps.0 c.loop-member.invariant.split in
    omega (arith, within, c.loop-member.invariant.count, c.loop-member.invariant.room, c.loop-member.replies.ok)

pub loop-member-preserved : goal.loop-member-preserved
loop-member-preserved g c =
    let covered : List ℕ → Type 0 = λ key. IsTrue (g.K.Keyspace.covered key) in
    let left = subst (λ ms. All covered (flat_map member_keys ms)) c.in-Some.ensures.steps.0 c.loop-member.invariant.left in
    let before = g.K.Keyspace.contents c.loop-member.keyspace in
    let after = g.K.Keyspace.contents c.run_member-reply.new.keyspace in
    let reply = content c.run_member-reply.result in
    let said : Fares MemberTakesMemory (has c.args.skip.now (c.len.result + 1)) c.in-Some.member before after reply
    = subst (λ b. Fares MemberTakesMemory b c.in-Some.member before after reply) c.contains.ensures.value c.run_member-reply.ensures.fares in record {
      run = rw (c.push_reserved.ensures.items, map-append content)
          (runs-push MemberTakesMemory c.args.skip.now 1 (c.len.result + 1) _ before after c.loop-member.yielded (map content c.loop-member.replies.items)
          c.in-Some.member reply
          (omega (arith, c.len.ensures, length-map c.loop-member.replies.items content, c.loop-member.replies.ok))
          c.loop-member.invariant.run said);
      split = taken-push _ c.loop-member.yielded c.in-Some.member _ _ c.in-Some.ensures.steps.0 c.loop-member.invariant.split;
      count = omega (
        arith,
        ap length c.push_reserved.ensures.items,
        length-append c.loop-member.replies.items (c.run_member-reply.result ∷ []),
        length-append c.loop-member.yielded (c.in-Some.member ∷ []),
        c.loop-member.invariant.count,
      );
      room = omega (arith, c.loop-member.invariant.room, c.push_reserved.ensures.capacity);
      left = all-right covered (member_keys c.in-Some.member) _ left;
    }
