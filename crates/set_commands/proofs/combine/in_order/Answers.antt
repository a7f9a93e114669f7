use Rattle.std.proofs.lemmas.List.Filters.{dedup_is}
use Rattle.set_commands.proofs.Kept.{same_text, sorted-once}
use Rattle.set_commands.proofs.combine.in_order.Goals as goal

pub returns : goal.returns
returns c =
    sorted-once c.args.texts.items c.sort.new.self.items c.dedup.new.self.items c.sort.ensures.permutation c.in_ok-sort.ensures.sorted
    (dedup_is same_text c.sort.new.self.items c.dedup.new.self.items c.dedup.ensures.filtered)
