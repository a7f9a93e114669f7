use Rattle.std.proofs.Common.{sym, ap, ◌∙◌}
use Rattle.tasks.specs.Keys.{member_keys, member_whole}
use Rattle.placement.proofs.Addressed.{chosen-none}
use Rattle.tasks.specs.Addressing.{groups_told}
use Rattle.tasks.proofs.addressing.groups_of_member.Goals as goal

pub returns-in-Refused : goal.returns-in-Refused
returns-in-Refused c = c.empty.ensures ∙ sym (chosen-none 0 c.args.table.now.shards)
    ∙ ap (λ m. groups_told c.args.table.now (member_whole m) (member_keys m)) (sym c.in-Refused.is)
