use Rattle.std.proofs.Common.{◌∙◌}
use Rattle.values.proofs.MembersSeen.{member-seen}
use Rattle.values.proofs.member_table.contains.Goals as goal

pub returns : goal.returns
returns c = c.contains.ensures ∙ member-seen c.args.member.now c.args.there.now.keys
