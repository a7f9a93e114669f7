use Rattle.std.proofs.Common.{not, ap, sym, ◌∙◌}
use Rattle.values.proofs.MembersSeen.{member-seen, insert-seen}
use Rattle.values.specs.SetValue.{is_member, members_seen, with_member}
use Rattle.values.proofs.member_table.insert.Goals as goal

pub returns-in_default-clause-absent : goal.returns-in_default-clause-absent
returns-in_default-clause-absent c =
    let keys = c.args.there.now.keys in
    ap (is_member (members_seen keys)) (sym c.from-key.ensures) ∙ sym (member-seen c.from-key.result keys) ∙ c.in_default.ensures.absent

pub returns-clause-added : goal.returns-clause-added
returns-clause-added c =
    let keys = c.args.there.now.keys in
    c.in-Ok.ensures.added
    ∙ ap not (member-seen c.from-key.result keys ∙ ap (is_member (members_seen keys)) c.from-key.ensures)

pub returns-clause-ok : goal.returns-clause-ok
returns-clause-ok c =
    let keys = c.args.there.now.keys in
    ap members_seen c.in-Ok.ensures.keys ∙ insert-seen c.from-key.result keys
    ∙ ap (with_member (members_seen keys)) c.from-key.ensures
