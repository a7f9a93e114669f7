use Rattle.std.proofs.Common.{ap, ◌∙◌}
use Rattle.values.proofs.MembersSeen.{remove-seen}
use Rattle.values.specs.SetValue.{members_seen}
use Rattle.values.proofs.member_table.remove.Goals as goal

pub returns-clause-left : goal.returns-clause-left
returns-clause-left c =
    ap members_seen c.swap_remove.ensures.keys
    ∙ remove-seen c.args.member.now c.args.there.now.keys c.len-len.ensures.unique
