use Rattle.std.proofs.Common.{◌≡◌, ◌≤◌, ◌+◌, ◌*◌, ◌++◌, map, length, vec_len, vec_capacity, All, IsTrue}
use Rattle.std.specs.List.{flat_map}
use Rattle.std.specs.Vec.Iter.{into_iter_items}
use Rattle.groups.specs.Skips.{parts_of}
use Rattle.resp.specs.Content.{content}
use Rattle.resp.specs.Text.{reply_text}
use Rattle.resp.specs.declared.answered.TheConstants.{LONG}
use Rattle.tasks.specs.BatchAnswer.{MemberAnswerTakesMemory}
use Rattle.tasks.specs.Batch.{RunsFrom}
use Rattle.tasks.specs.Keys.{member_keys}
use Rattle.tasks.proofs.answered_members.answer_members.Given as goal

-- the members taken so far have been run, and their texts stand in turn; the others are those that are left, whose keys are
-- covered, and there is room for all replies and for 128 bytes a member that is left
abbrev pub invariant-loop-member : goal.invariant-loop-member
invariant-loop-member g l = record {
  run : RunsFrom MemberAnswerTakesMemory (parts_of l.fn.skip l.fn.id) 1 (g.K.Keyspace.contents l.fn.keyspace) l.yielded
      (map content l.replies.items) (g.K.Keyspace.contents l.keyspace);
  texts : l.out.items ≡ l.fn.out.items ++ flat_map reply_text l.replies.items;
  split : l.fn.members ≡ l.yielded ++ into_iter_items l.member-iterator;
  count : length l.replies.items ≡ length l.yielded;
  room : length l.fn.members ≤ vec_capacity l.replies;
  spare : vec_len l.out + l.spare ≤ vec_capacity l.out;
  rest : l.spare ≡ LONG * length (into_iter_items l.member-iterator);
  left : All (λ key. IsTrue (g.K.Keyspace.covered key)) (flat_map member_keys (into_iter_items l.member-iterator));
}
