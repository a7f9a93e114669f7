use Rattle.std.proofs.Common.{◌≡◌, ◌≤◌, ◌++◌, map, length, vec_capacity, All, IsTrue}
use Rattle.std.specs.List.{flat_map}
use Rattle.std.specs.Vec.Iter.{into_iter_items}
use Rattle.resp.specs.Content.{content}
use Rattle.tasks.specs.Batch.{RunsFrom}
use Rattle.tasks.specs.Keys.{member_keys}
use Rattle.tasks.specs.Member.{MemberTakesMemory}
use Rattle.tasks.proofs.members.run_members.Given as goal

-- the members taken so far have been run, the others are those that are left, whose keys are covered, and there is room for
-- all replies
abbrev pub invariant-loop-member : goal.invariant-loop-member
invariant-loop-member g l = record {
  run : RunsFrom MemberTakesMemory l.fn.skip 1 (g.K.Keyspace.contents l.fn.keyspace) l.yielded (map content l.replies.items)
      (g.K.Keyspace.contents l.keyspace);
  split : l.fn.members ≡ l.yielded ++ into_iter_items l.member-iterator;
  count : length l.replies.items ≡ length l.yielded;
  room : length l.fn.members ≤ vec_capacity l.replies;
  left : All (λ key. IsTrue (g.K.Keyspace.covered key)) (flat_map member_keys (into_iter_items l.member-iterator));
}
