use Rattle.std.proofs.Common.{ap, length, arith}
use Rattle.packing.specs.Lists.{lists_in}
use Rattle.packing.proofs.ListLaws.{lists-few, read_more}
use Rattle.packing.proofs.packed_list.PackedList.push.Goals as goal

pub overflow_add-self : goal.overflow_add-self
overflow_add-self c =
    let are = c.self.invariant in
    record {
      fits = omega (
        arith,
        are.counted,
        ap length are.coded,
        lists-few (lists_in c.self.inside.count c.self.inside.bytes.items),
        c.self.inside.bytes.ok.0,
        c.self.inside.bytes.small,
      );
    }

pub invariant_of-self-2 : goal.invariant_of-self-2
invariant_of-self-2 c = (read_more _ _ _ _ _ c.self.invariant c.in_ok-put_list.ensures.items c.in_ok-put_list.ensures.fits).are

pub returns-clause-pushed : goal.returns-clause-pushed
returns-clause-pushed c =
    rw (← c.self.view_is) (read_more _ _ _ _ _ c.self.invariant c.in_ok-put_list.ensures.items c.in_ok-put_list.ensures.fits).same
