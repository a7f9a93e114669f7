use Rattle.std.proofs.Common.{sym}
use Rattle.values.proofs.MembersSeen.{seen-permuted, in_order-ascends}
use Rattle.values.proofs.member_table.order.Goals as goal

pub returns-clause-ok : goal.returns-clause-ok
returns-clause-ok c =
    let keys = c.sort.new.self.keys in
    in_order-ascends keys c.in_ok-sort.ensures.sorted c.sort.ensures.unique

pub returns-clause-same : goal.returns-clause-same
returns-clause-same c = sym (seen-permuted c.args.there.now.keys c.sort.new.self.keys c.sort.ensures.reordered.0)
