use Rattle.placement.proofs.Owning.{Gives-from_owners, IsTable-from_gives}
use Rattle.placement.proofs.table.Table.from_document.Goals as goal

pub invariant_of-result : goal.invariant_of-result
invariant_of-result c =
    let known = rw c.in_ok-shards.ensures.ok_part at c.known_shards.ensures in
    let owns = rw (c.in_ok-owners.ensures.ok_part, c.ranges-2.ensures.value) at c.owners_of.ensures in
    let each = rw c.in_ok-slots.ensures.ok_part at c.all_owned.ensures in
    IsTable-from_gives c.args.document.now _ (Gives-from_owners _ _ _ _ known.0 known.1 owns each) each.each_slot
