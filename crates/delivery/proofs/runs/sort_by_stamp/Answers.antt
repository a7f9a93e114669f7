use Rattle.std.proofs.Common.{rules}
use Rattle.std.proofs.lemmas.List.Sorted.{answers_always}
use Rattle.skeen_core.specs.declared.packet.Delivered.{Delivered}
use Rattle.delivery.proofs.runs.sort_by_stamp.Goals as goal

pub returns-clause-sorted : goal.returns-clause-sorted
returns-clause-sorted c =
    c.sort_unstable_by_key.ensures.sorted (λ (d : Delivered). d.stamp) (answers_always _ _ _ (λ f a r g h. search rules))
