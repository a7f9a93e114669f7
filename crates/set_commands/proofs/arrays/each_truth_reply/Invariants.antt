use Rattle.std.proofs.Common.{◌≡◌, map, take}
use Rattle.std.specs.Option.{option_copied}
use Rattle.resp.specs.Content.{content}
use Rattle.set_commands.specs.Combination.{found_members}
use Rattle.set_commands.specs.SetCommand.{sismember_answer}
use Rattle.texts.specs.Texts.{texts_of}
use Rattle.set_commands.proofs.arrays.each_truth_reply.Given as goal

-- the members so far have their replies
abbrev pub invariant-loop-member : goal.invariant-loop-member
invariant-loop-member l =
    map content l.replies.items
    ≡ map (λ member. sismember_answer member (found_members (option_copied l.set))) (texts_of (take l.member-index l.member-items))
