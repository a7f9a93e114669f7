use Rattle.std.proofs.Common.{◌≡◌, ◌≤◌, ◌++◌, map, length, vec_capacity}
use Rattle.std.specs.Vec.Iter.{into_iter_items}
use Rattle.resp.specs.Content.{content}
use Rattle.solo.specs.Solo.{solo_from}
use Rattle.solo.proofs.store.Solo.run_all.Given as goal

-- the commands taken so far have been run, the others are those that are left, and there is room for all replies
abbrev pub invariant-loop-command : goal.invariant-loop-command
invariant-loop-command g l = record {
  run : (l.self, map content l.replies.items) ≡ solo_from l.fn.self l.yielded;
  split : l.fn.commands.items ≡ l.yielded ++ into_iter_items l.command-iterator;
  count : length l.replies.items ≡ length l.yielded;
  room : length l.fn.commands.items ≤ vec_capacity l.replies;
}
