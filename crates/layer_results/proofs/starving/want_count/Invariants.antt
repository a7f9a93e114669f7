use Rattle.std.proofs.Common.{◌≡◌, length, map, take}
use Rattle.layer_results.specs.Wants.{wants_among}
use Rattle.resp.specs.Content.{content}
use Rattle.layer_results.proofs.starving.want_count.Given as goal

-- how many of the replies so far say so
abbrev pub invariant-loop-reply : goal.invariant-loop-reply
invariant-loop-reply l = l.count ≡ length (wants_among 1 (map content (take l.reply-index l.replies)))
