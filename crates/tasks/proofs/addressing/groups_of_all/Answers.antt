use Rattle.std.proofs.Common.{◌||◌, take, ap, sym, ◌∙◌, subst, arith}
use Rattle.std.proofs.lemmas.List.{take_all}
use Rattle.groups.specs.GroupSet.{has, IsAscending}
use Rattle.placement.proofs.Addressed.{chosen-none}
use Rattle.tasks.proofs.Joining.{of_members, joined-push, IsAscending-groups_told, take_one}
use Rattle.tasks.proofs.addressing.groups_of_all.Goals as goal

pub loop-member-init : goal.loop-member-init
loop-member-init c = c.empty-groups.ensures ∙ sym (chosen-none 0 c.args.table.now.shards)

pub joined-groups-requires : goal.joined-groups-requires
joined-groups-requires c = subst IsAscending (sym c.loop-member.invariant) (IsAscending-groups_told c.args.table.now _ _)

pub loop-member-preserved : goal.loop-member-preserved
loop-member-preserved c =
    let done = take c.loop-member.member-index c.args.members.now in
    joined-push c.args.table.now done c.member-item.result c.joined-groups.result c.joined-groups.ensures.ascending
    (λ g. c.joined-groups.ensures.both g ∙ ap (λ gs. has gs g || has c.groups_of_member.result g) c.loop-member.invariant
    ∙ ap (λ gs. has (of_members c.args.table.now done) g || has gs g) c.groups_of_member.ensures)
    ∙ ap (of_members c.args.table.now)
    (sym (take_one c.args.members.now c.loop-member.member-index c.member-item.result c.loop-member-test.true c.member-item.is))

pub returns : goal.returns
returns c = c.loop-member.invariant ∙ ap (of_members c.args.table.now)
    (take_all c.loop-member.member-index c.args.members.now (omega (arith, c.loop-member-test.false)))
