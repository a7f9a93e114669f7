use Rattle.std.proofs.Common.{◌≡◌, ◌≤◌, ◌++◌, map, length, vec_capacity}
use Rattle.std.specs.Vec.Iter.{into_iter_items}
use Rattle.resp.specs.Content.{content}
use Rattle.tasks.specs.AtOnce.{AreKeyless, replies_at_once}
use Rattle.tasks.proofs.at_once.answer_members.Given as goal

-- the members taken so far have been answered, the others are those that are left, and there is room for all replies
abbrev pub invariant-loop-member : goal.invariant-loop-member
invariant-loop-member l = record {
  answered : map content l.replies.items ≡ replies_at_once l.yielded;
  split : l.fn.members ≡ l.yielded ++ into_iter_items l.member-iterator;
  count : length l.replies.items ≡ length l.yielded;
  room : length l.fn.members ≤ vec_capacity l.replies;
  left : AreKeyless (into_iter_items l.member-iterator);
}
