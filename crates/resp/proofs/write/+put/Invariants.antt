use Rattle.std.proofs.Common.{◌≡◌, ◌++◌, ◌≤◌, take, vec_capacity}
use Rattle.std.specs.List.{flat_map}
use Rattle.resp.specs.Text.{reply_text}
use Rattle.resp.proofs.write.+put.Given as goal

-- the replies written so far have appended their texts
abbrev pub invariant-loop-reply : goal.invariant-loop-reply
invariant-loop-reply l = record {
  texts : l.out.items ≡ l.initial.out.items ++ flat_map reply_text (take l.reply-index l.reply-items);
  capacity : vec_capacity l.initial.out ≤ vec_capacity l.out;
}
