use Rattle.values.proofs.MembersSeen.{sorted-seen}
use Rattle.values.proofs.member_table.ascending.Goals as goal

pub returns : goal.returns
returns c =
    sorted-seen (λ member. member.now) c.args.there.now.keys c.in_ok-members.members.items c.sort.new.self.items
    c.in_ok-members.ensures.lent c.in_ok-members.ensures.distinct c.sort.ensures.permutation c.in_ok-sort.ensures.sorted
