use Rattle.std.proofs.Common.{arith, length, ap}
use Rattle.packing.specs.Lists.{lists_in}
use Rattle.packing.proofs.ListLaws.{lists-few}
use Rattle.packing.proofs.packed_list.PackedList.len.Goals as goal

pub returns-clause-number : goal.returns-clause-number
returns-clause-number c = rw (← c.self.view_is) c.self.invariant.counted

pub returns-clause-small : goal.returns-clause-small
returns-clause-small c =
    let are = c.self.invariant in
    omega (
      arith,
      are.counted,
      ap length are.coded,
      lists-few (lists_in c.self.inside.count c.self.inside.bytes.items),
      c.self.inside.bytes.ok.0,
      c.self.inside.bytes.small,
    )
