use Rattle.std.proofs.Common.{◌≡◌, ◌+◌, ◌<◌, ◌^◌, length, take}
use Rattle.std.specs.List.{flat_map}
use Rattle.resp.specs.Text.{reply_text}
use Rattle.resp.proofs.size.+text_size.Given as goal

-- the texts of the replies looked at so far have been added
abbrev pub invariant-loop-reply : goal.invariant-loop-reply
invariant-loop-reply l = record {
  texts : l.size ≡ l.initial.size + length (flat_map reply_text (take l.reply-index l.reply-items));
  fits : l.size < 2 ^ 64;
}
