use Rattle.std.proofs.Common.{◌≡◌, ◌++◌, take}
use Rattle.std.specs.List.{flat_map}
use Rattle.picture_shapes.specs.Arrows.{backs_of}
use Rattle.picture_shapes.proofs.arrows.put_backs.Given as goal

abbrev pub invariant-loop-reply : goal.invariant-loop-reply
invariant-loop-reply l = l.arrows.items ≡ l.fn.arrows.items ++ flat_map (backs_of l.frame) (take l.reply-index l.replies)
