use Rattle.packing.proofs.ListLaws.{no_lists}
use Rattle.packing.proofs.packed_list.PackedList.new.Goals as goal

pub invariant_of-result : goal.invariant_of-result
invariant_of-result c = rw c.new.ensures.items no_lists
